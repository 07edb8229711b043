use Rattle.aig_design.proofs.Shown.{AreTaken}
use Rattle.aig_design.proofs.outputs.latch_literals.Given as goal

abbrev pub invariant-loop-i : goal.invariant-loop-i
invariant-loop-i l = AreTaken l.resets l.parts l.all l.i
