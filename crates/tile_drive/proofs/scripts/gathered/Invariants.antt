use Rattle.std.proofs.Common.{◌≡◌, ℕ, ◌<◌, take, vec_len}
use Rattle.tile_drive.specs.TraceDriver.{due_in, spans_in}
use Rattle.tile_drive.specs.Scripts.{due_at, spans_at}
use Rattle.tile_drive.proofs.scripts.gathered.Given as goal

abbrev pub invariant-loop-entry : goal.invariant-loop-entry
invariant-loop-entry l = record {
  count : vec_len l.scripts ≡ l.count;
  due : (j : ℕ) → j < l.count → due_at l.scripts.items j ≡ due_in (take l.entry-index l.entries) j;
  spans : (j : ℕ) → j < l.count → spans_at l.scripts.items j ≡ spans_in (take l.entry-index l.entries) j;
}
