use Rattle.std.proofs.Common.{◌≡◌, ℕ, ◌<◌, ◌≤◌, get_or, length}
use Rattle.aig_out.specs.Ran.{at}
use Rattle.aig_trim.specs.Marks.{place}
use Rattle.aig_trim.proofs.trim.numbers.Given as goal

abbrev pub invariant-loop-marked : goal.invariant-loop-marked
invariant-loop-marked l = record {
  len : length l.numbers.items ≡ l.marked-index;
  next : l.next ≡ place (at l.marks) l.marked-index;
  value : (x : ℕ) → x < l.marked-index → get_or l.numbers.items x 0 ≡ place (at l.marks) x;
  low : (x : ℕ) → get_or l.numbers.items x 0 ≤ x;
}
