use Rattle.std.proofs.Common.{◌≡◌, ◌<◌, ℕ, false, length, Some}
use Rattle.noc_model.specs.Plan.{tiles}
use Rattle.noc_model.specs.Place.{neighbour}
use Rattle.cycle_sim.specs.Asleep.{is_awake, SendsNothing}
use Rattle.cycle_sim.proofs.wake.wake_from.Given as goal

abbrev pub invariant-loop-port : goal.invariant-loop-port
invariant-loop-port l = record {
  count : length l.awake.items ≡ tiles l.plan;
  asleep : (n : ℕ) → is_awake l.awake.items n ≡ false → is_awake l.initial.awake.items n ≡ false;
  nothing : (n q : ℕ) → q < l.port → neighbour l.plan l.m q ≡ Some n → is_awake l.awake.items n ≡ false → SendsNothing l.plan l.rows l.pulses l.m q;
}
