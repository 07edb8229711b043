use Rattle.std.proofs.Common.{◌≡◌, ℕ}
use Rattle.route_stage.specs.Routed.{routes_of, stage_at, routed_before, HasInputs}
use Rattle.route_stage.proofs.RouteStage.step.Given as goal

abbrev pub invariant-loop-d : goal.invariant-loop-d
invariant-loop-d l = (HasInputs l.plan l.next)
    × ((n e k : ℕ) → l.self ≡ routes_of l.plan n → stage_at l.next e k ≡ routed_before l.d l.plan n l.fronts l.stages l.initial.next e k)
