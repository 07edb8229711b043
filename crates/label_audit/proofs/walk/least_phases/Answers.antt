use Rattle.std.proofs.Common.{◌≡◌, ℕ, ◌-◌, sym, subst}
use Rattle.std.specs.Prelude.{Some}
use Rattle.label_audit.specs.Walks.{AreFirst, IsWalk}
use Rattle.label_audit.proofs.Walks.{first-walk}
use Rattle.label_audit.proofs.walk.least_phases.Goals as goal

pub loop-waits-init : goal.loop-waits-init
loop-waits-init c =
    let s = c.args.shape.now in
    let phases = c.in_ok-phases.phases.items in
    let first = first-walk s c.requires.shape phases (subst (λ n. AreFirst s n phases) c.requires.count c.in_ok-phases.ensures) in
    subst (λ n. IsWalk s phases (Some (n - 1))) (sym c.requires.count) first
