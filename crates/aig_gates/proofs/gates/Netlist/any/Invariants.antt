use Rattle.aig_gates.proofs.Zipped.{IsAny}
use Rattle.aig_gates.proofs.gates.Netlist.any.Given as goal

abbrev pub invariant-loop-bit : goal.invariant-loop-bit
invariant-loop-bit l = IsAny l.initial.self l.self l.bits l.some l.bit-index
