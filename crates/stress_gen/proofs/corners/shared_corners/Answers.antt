use Rattle.std.proofs.Common.{◌≡◌, ℕ, false, List, sym, subst}
use Rattle.noc_model.specs.declared.plan.DomainPart.{DomainPart}
use Rattle.noc_model.specs.declared.Host.{Host}
use Rattle.noc_model.specs.declared.Range.{Range}
use Rattle.noc_model.specs.Plan.{Plan}
use Rattle.noc_model.specs.Sound.{IsSound}
use Rattle.stress_gen.proofs.Sound.{shared_corners-sound}
use Rattle.stress_gen.proofs.corners.shared_corners.Goals as goal

-- the plan of these lists
abbrev made : List ℕ → List DomainPart → List Host → List Range → List ℕ → Plan
made dims domains hosts ranges slots = record { torus = false; dims = dims; stages = 1; buffer = 4; domains = domains; hosts = hosts; ranges = ranges; slots = slots }

same : (dims dims' : List ℕ) (domains domains' : List DomainPart) (hosts hosts' : List Host) (ranges ranges' : List Range) (slots slots' : List ℕ)
    → dims ≡ dims' → domains ≡ domains' → hosts ≡ hosts' → ranges ≡ ranges' → slots ≡ slots' → made dims domains hosts ranges slots ≡ made dims' domains' hosts' ranges' slots'
same dims dims' domains domains' hosts hosts' ranges ranges' slots slots' a b c d e = cc

pub new-requires : goal.new-requires
new-requires c =
    subst IsSound (sym (same _ _ _ _ _ _ _ _ _ _ c.in_ok-dims.ensures.items c.in_ok-domains.ensures c.in_ok-hosts.ensures c.in_ok-ranges.ensures c.in_ok-slots.ensures.items)) shared_corners-sound
