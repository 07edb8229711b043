use Rattle.std.proofs.Common.{◌≡◌, ◌<◌, ℕ, false, length, Some, None}
use Rattle.std.specs.Prelude.{slice_get}
use Rattle.noc_model.specs.declared.Host.{Host}
use Rattle.noc_model.specs.Plan.{tiles}
use Rattle.cycle_sim.specs.Asleep.{is_awake}
use Rattle.cycle_sim.proofs.wake.wake_offered.Given as goal

abbrev pub invariant-loop-j : goal.invariant-loop-j
invariant-loop-j g l = record {
  count : length l.awake.items ≡ tiles l.plan;
  asleep : (n : ℕ) → is_awake l.awake.items n ≡ false → is_awake l.initial.awake.items n ≡ false;
  nothing : (i : ℕ) (h : Host) → i < l.j → slice_get l.plan.hosts i ≡ Some h → is_awake l.awake.items h.tile ≡ false
      → (g.D.Driving.driver l.drive).offer i (g.D.Driving.state l.drive i) l.cycle ≡ None;
}
