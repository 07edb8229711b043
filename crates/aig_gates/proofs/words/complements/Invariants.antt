use Rattle.aig_gates.proofs.Zipped.{IsOther}
use Rattle.aig_gates.proofs.words.complements.Given as goal

abbrev pub invariant-loop-literal : goal.invariant-loop-literal
invariant-loop-literal l = IsOther l.bits l.all l.literal-index
