use Rattle.std.proofs.Common.{◌≡◌, replicate}
use Rattle.router_core.specs.Pulses.{no_pulses}
use Rattle.cycle_sim.proofs.begin.pulses_of.Given as goal

abbrev pub invariant-loop : goal.invariant-loop
invariant-loop l = l.pulses.items ≡ replicate l.counter (no_pulses l.plan)
