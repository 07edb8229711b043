use Rattle.aig_cycle.proofs.Latched.{IsTaken}
use Rattle.aig_cycle.proofs.latches.latch_literals.Given as goal

abbrev pub invariant-loop-i : goal.invariant-loop-i
invariant-loop-i l = IsTaken l.bits l.reset l.all l.i
