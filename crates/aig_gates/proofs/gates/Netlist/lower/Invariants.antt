use Rattle.aig_gates.specs.Zips.{IsLess}
use Rattle.aig_gates.proofs.gates.Netlist.lower.Given as goal

abbrev pub invariant-loop-i : goal.invariant-loop-i
invariant-loop-i l = IsLess l.initial.self l.self l.first l.second l.less l.i
