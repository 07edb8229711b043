use Rattle.aig_cycle.proofs.Latched.{IsLatched}
use Rattle.aig_cycle.proofs.latches.latch_word.Given as goal

abbrev pub invariant-loop-i : goal.invariant-loop-i
invariant-loop-i l = IsLatched l.first l.reset l.bits l.i
