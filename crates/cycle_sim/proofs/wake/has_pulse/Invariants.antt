use Rattle.std.proofs.Common.{◌≡◌, ◌<◌, ℕ, None}
use Rattle.router_core.specs.Pulses.{pulse_at}
use Rattle.cycle_sim.proofs.wake.has_pulse.Given as goal

abbrev pub invariant-loop-d : goal.invariant-loop-d
invariant-loop-d l = (d : ℕ) → d < l.d → pulse_at l.pulses d l.port ≡ None
