use Rattle.cycle_sim.specs.Asleep.{AreAsleep}
use Rattle.cycle_sim.proofs.wake.sleep_quiet.Given as goal

abbrev pub invariant-loop-n : goal.invariant-loop-n
invariant-loop-n l = AreAsleep l.plan l.routers l.rows l.pulses l.awake.items
