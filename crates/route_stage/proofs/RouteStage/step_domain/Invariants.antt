use Rattle.std.proofs.Common.{◌≡◌, ℕ}
use Rattle.route_stage.specs.Routed.{routes_of, stage_at, routed_to, HasInputs}
use Rattle.route_stage.proofs.RouteStage.step_domain.Given as goal

abbrev pub invariant-loop-i : goal.invariant-loop-i
invariant-loop-i l = (HasInputs l.plan l.next)
    × ((n e k : ℕ) → l.self ≡ routes_of l.plan n → stage_at l.next e k ≡ routed_to l.i l.plan n l.fronts l.stages l.initial.next l.d e k)
