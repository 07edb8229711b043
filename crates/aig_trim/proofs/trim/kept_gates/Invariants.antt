use Rattle.std.proofs.Common.{◌≡◌, take}
use Rattle.std.specs.Prelude.{slice_index}
use Rattle.aig_out.specs.Ran.{at}
use Rattle.aig_trim.specs.Marks.{kept}
use Rattle.aig_trim.proofs.trim.kept_gates.Given as goal

abbrev pub invariant-loop-i : goal.invariant-loop-i
invariant-loop-i l = l.all ≡ kept (at l.marks) (slice_index l.numbers) l.first (take l.i l.gates)
