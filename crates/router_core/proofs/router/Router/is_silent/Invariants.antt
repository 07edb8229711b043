use Rattle.std.proofs.Common.{◌≡◌, ◌<◌, ℕ, None}
use Rattle.router_core.specs.Pulses.{pulse_at}
use Rattle.router_core.proofs.router.Router.is_silent.Given as goal

abbrev pub invariant-loop-port : goal.invariant-loop-port
invariant-loop-port l = (k : ℕ) → k < l.port → pulse_at l.self.pulses l.d k ≡ None
