use Rattle.std.proofs.Common.{◌≡◌, ℕ, [], vec_len}
use Rattle.tile_drive.specs.Scripts.{due_at, spans_at}
use Rattle.tile_drive.proofs.scripts.empty_scripts.Given as goal

abbrev pub invariant-loop-i : goal.invariant-loop-i
invariant-loop-i l = record {
  count : vec_len l.scripts ≡ l._i;
  due : (j : ℕ) → due_at l.scripts.items j ≡ [];
  spans : (j : ℕ) → spans_at l.scripts.items j ≡ [];
}
