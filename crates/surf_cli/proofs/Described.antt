-- The plan of an accepted description is sound.
use Rattle.std.proofs.Common.{◌≡◌, ℕ, List, refl, ap, subst}
use Rattle.std.specs.Prelude.{Option, Some, None}
use Rattle.noc_model.specs.Plan.{Plan}
use Rattle.noc_model.specs.Sound.{IsSound}
use Rattle.noc_desc.specs.Draft as table
use Rattle.noc_desc.specs.Draft.{draft_of}
use Rattle.noc_desc.specs.declared.Draft.{Draft}
use Rattle.noc_desc.specs.declared.DescFault.{DescFault}
use Rattle.desc_check.specs.Network.{plan_of_draft}
use Rattle.desc_check.specs.Accepted.{first_fault}
use Rattle.desc_check.proofs.Sound.{sound}
use Rattle.surf_cli.specs.Meaning.{Judged, Faulty, Described, judged_plan, judged_draft, judged}

-- the plan that a description says
abbrev plan_or : Plan → Judged → Plan
plan_or other (Faulty fault) = other
plan_or other (Described plan) = plan

plan-sound : (fault : Option DescFault) (q p : Plan) → (fault ≡ None → IsSound q) → judged_plan fault q ≡ Described p → IsSound p
plan-sound None q p always e = subst IsSound (ap (plan_or q) e) (always refl)
plan-sound (Some fault) q p always e = absurd cc

draft-sound : (fault : Option DescFault) (o : Option Draft) (p : Plan) → judged_draft fault o ≡ Described p → IsSound p
draft-sound (Some fault) o p e = absurd cc
draft-sound None None p e = absurd cc
draft-sound None (Some d) p e = plan-sound (first_fault d) (plan_of_draft d) p (sound d) e

pub described-sound : (bytes : List ℕ) (p : Plan) → judged bytes ≡ Described p → IsSound p
unfolding judged
described-sound bytes p e = draft-sound (table.first_fault bytes) (draft_of bytes) p e
