use Rattle.std.proofs.Common.{◌≡◌, ◌<◌, ℕ, None, length}
use Rattle.router_core.specs.Pulses.{pulse_at}
use Rattle.cycle_sim.proofs.wake.has_no_pulses.Given as goal

abbrev pub invariant-loop-port : goal.invariant-loop-port
invariant-loop-port l = (d q : ℕ) → d < length l.plan.domains → q < l.port → pulse_at l.pulses d q ≡ None
