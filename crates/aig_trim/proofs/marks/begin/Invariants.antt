use Rattle.std.proofs.Common.{◌≡◌, ℕ, length}
use Rattle.std.specs.Prelude.{nat_lt}
use Rattle.aig_out.specs.Ran.{at}
use Rattle.aig_trim.proofs.marks.begin.Given as goal

abbrev pub invariant-loop-x : goal.invariant-loop-x
invariant-loop-x l = record {
  len : length l.marks.items ≡ l.count;
  value : (y : ℕ) → at l.marks.items y ≡ nat_lt y l.x;
}
