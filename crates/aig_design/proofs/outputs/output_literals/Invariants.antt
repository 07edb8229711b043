use Rattle.aig_design.proofs.Shown.{IsShown}
use Rattle.aig_design.proofs.outputs.output_literals.Given as goal

abbrev pub invariant-loop-i : goal.invariant-loop-i
invariant-loop-i l = IsShown l.ports l.places l.tops l.all l.i
