use Rattle.std.proofs.Common.{◌≡◌, ◌≤◌, ◌+◌, ℕ, drop, length}
use Rattle.aig_out.specs.Ran.{at}
use Rattle.aig_trim.specs.Marks.{with_reads}
use Rattle.aig_trim.proofs.marks.mark_gates.Given as goal

abbrev pub invariant-loop-i : goal.invariant-loop-i
invariant-loop-i l = record {
  within : l.i ≤ length l.gates;
  value : (x : ℕ) → at l.marks x ≡ with_reads (at l.initial.marks) (l.first + l.i) (drop l.i l.gates) x;
}

abbrev pub decreases-loop-i : goal.decreases-loop-i
decreases-loop-i l = l.i
