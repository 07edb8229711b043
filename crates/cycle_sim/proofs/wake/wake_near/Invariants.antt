use Rattle.std.proofs.Common.{◌≡◌, ◌<◌, ℕ, true, false, length, Some}
use Rattle.noc_model.specs.Plan.{tiles, ports}
use Rattle.noc_model.specs.Place.{neighbour}
use Rattle.cycle_sim.specs.Asleep.{is_awake, SendsNothing}
use Rattle.cycle_sim.proofs.wake.wake_near.Given as goal

abbrev pub invariant-loop-m : goal.invariant-loop-m
invariant-loop-m l = record {
  count : length l.awake.items ≡ tiles l.plan;
  asleep : (n : ℕ) → is_awake l.awake.items n ≡ false → is_awake l.initial.awake.items n ≡ false;
  nothing : (k n port : ℕ) → k < l.m → port < ports l.plan → is_awake l.initial.awake.items k ≡ true → neighbour l.plan k port ≡ Some n
      → is_awake l.awake.items n ≡ false → SendsNothing l.plan l.rows l.pulses k port;
}
