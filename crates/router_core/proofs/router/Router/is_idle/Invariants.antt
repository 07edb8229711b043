use Rattle.std.proofs.Common.{◌<◌, ℕ}
use Rattle.router_core.specs.Idle.{IsIdleFor}
use Rattle.router_core.proofs.router.Router.is_idle.Given as goal

abbrev pub invariant-loop-d : goal.invariant-loop-d
invariant-loop-d l = (d : ℕ) → d < l.d → IsIdleFor l.plan l.self d
