use Rattle.aig_gates.specs.Zips.{IsZipped}
use Rattle.aig_gates.proofs.gates.Netlist.zip.Given as goal

abbrev pub invariant-loop-i : goal.invariant-loop-i
invariant-loop-i l = IsZipped l.initial.self l.self l.way l.first l.second l.bits l.i
