-- What a description says, from what its parts say.
use Rattle.std.proofs.Common.{◌≡◌, inl, inr, ℕ, List, refl, ap, sym, subst, ◌∙◌}
use Rattle.std.specs.Prelude.{Some, None}
use Rattle.noc_model.specs.Plan.{Plan}
use Rattle.noc_desc.specs.Draft as table
use Rattle.noc_desc.specs.Draft.{draft_of, IsMemory}
use Rattle.noc_desc.specs.declared.Draft.{Draft}
use Rattle.noc_desc.specs.declared.DescFault.{DescFault}
use Rattle.desc_check.specs.Network.{plan_of_draft}
use Rattle.desc_check.specs.Accepted.{first_fault}
use Rattle.surf_cli.specs.declared.statuses.End.{End}
use Rattle.surf_cli.specs.declared.refusals.Refusal.TheVariants.{Description}
use Rattle.surf_cli.specs.declared.statuses.End.TheVariants.{Refused}
use Rattle.surf_cli.specs.Meaning.{Outcome, Stops, Halts, Faulty, Described, judged, judged_draft, judged_plan, with_judged, with_plan}
use Rattle.surf_cli.specs.Answers.{EndsFor, IsRefused}

-- the table has a fault
pub judged-table : (bytes : List ℕ) (f : DescFault) → table.first_fault bytes ≡ Some f → judged bytes ≡ Faulty f
unfolding judged
judged-table bytes f e = ap (λ x. judged_draft x (draft_of bytes)) e

-- the draft has a fault
pub judged-fault : (bytes : List ℕ) (d : Draft) (f : DescFault) → draft_of bytes ≡ Some d → table.first_fault bytes ≡ None → first_fault d ≡ Some f → judged bytes ≡ Faulty f
unfolding judged
judged-fault bytes d f e clean faulty =
    ap (λ x. judged_draft x (draft_of bytes)) clean ∙ ap (judged_draft None) e ∙ ap (λ x. judged_plan x (plan_of_draft d)) faulty

judged-described : (bytes : List ℕ) (d : Draft) (p : Plan) → draft_of bytes ≡ Some d → table.first_fault bytes ≡ None → first_fault d ≡ None → p ≡ plan_of_draft d
    → judged bytes ≡ Described p
unfolding judged
judged-described bytes d p e clean good is =
    ap (λ x. judged_draft x (draft_of bytes)) clean ∙ ap (judged_draft None) e ∙ ap (λ x. judged_plan x (plan_of_draft d)) good ∙ ap Described (sym is)

-- there is no fault
pub plan-read : (bytes : List ℕ) (d : Draft) (p : Plan) → draft_of bytes ≡ Some d → table.first_fault bytes ≡ None → first_fault d ≡ None → p ≡ plan_of_draft d
    → (next : Plan → Outcome) → with_plan bytes next ≡ next p
plan-read bytes d p e clean good is next = ap (λ j. with_judged j next) (judged-described bytes d p e clean good is)

-- a command that stops ends so
pub halts : (m : Outcome) (end : End) → m ≡ Stops end → Halts m end
halts m end e = subst (λ o. Halts o end) (sym e) refl

-- how a run ends that meets this fault
pub plan-refused : (bytes : List ℕ) (f : DescFault) (end : End) → EndsFor f end → ((IsMemory f → ⊥) → judged bytes ≡ Faulty f)
    → (next : Plan → Outcome) → IsRefused (with_plan bytes next) end
plan-refused bytes f end (inl e) h next = inl e
plan-refused bytes f end (inr e) h next =
    inr record { refusal = Description f; of_contents = e.0; is = e.1; meant = halts _ (Refused (Description f)) (ap (λ j. with_judged j next) (h e.0)) }
