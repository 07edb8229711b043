use Rattle.aig_gates.proofs.Zipped.{IsPadded}
use Rattle.aig_gates.proofs.words.padded.Given as goal

abbrev pub invariant-loop-i : goal.invariant-loop-i
invariant-loop-i l = IsPadded l.bits l.all l.i
