use Rattle.aig_gates.specs.Memory.{IsSelected}
use Rattle.aig_gates.proofs.gates.Netlist.select.Given as goal

abbrev pub invariant-loop-bit : goal.invariant-loop-bit
invariant-loop-bit l = IsSelected l.initial.self l.self l.row l.index l.words l.bit-index
