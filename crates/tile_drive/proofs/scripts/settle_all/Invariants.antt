use Rattle.std.proofs.Common.{◌≡◌, ℕ, ◌<◌}
use Rattle.std.specs.Prelude.{slice_get}
use Rattle.tile_drive.specs.TraceDriver.{is_deaf}
use Rattle.tile_drive.specs.Scripts.{due_at, spans_at, ends_of_script, AreSettled}
use Rattle.tile_drive.proofs.scripts.settle_all.Given as goal

abbrev pub invariant-loop-script : goal.invariant-loop-script
invariant-loop-script l = record {
  due : (j : ℕ) → due_at l.scripts j ≡ due_at l.initial.scripts j;
  deaf : (j t : ℕ) → is_deaf (spans_at l.scripts j) t ≡ is_deaf (spans_at l.initial.scripts j) t;
  settled : (j : ℕ) → j < l.script-index → AreSettled (spans_at l.scripts j) (ends_of_script (slice_get l.scripts j));
}
