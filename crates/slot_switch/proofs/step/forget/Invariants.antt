use Rattle.std.proofs.Common.{◌≡◌, ℕ, ◌<◌}
use Rattle.std.specs.Prelude.{Some, None, slice_get}
use Rattle.vc_partition.specs.Lanes.{lane}
use Rattle.slot_switch.specs.Grants.{OnlyLane}
use Rattle.slot_switch.proofs.step.forget.Given as goal

abbrev pub invariant-loop-port : goal.invariant-loop-port
invariant-loop-port l =
    ((k : ℕ) → k < l.port → slice_get (lane l.grants l.d) k ≡ Some None) × OnlyLane l.initial.grants l.grants l.d
