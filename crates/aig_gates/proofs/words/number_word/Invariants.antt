use Rattle.aig_gates.proofs.Zipped.{IsBits}
use Rattle.aig_gates.proofs.words.number_word.Given as goal

abbrev pub invariant-loop-i : goal.invariant-loop-i
invariant-loop-i l = IsBits l.number l.bits l.i
