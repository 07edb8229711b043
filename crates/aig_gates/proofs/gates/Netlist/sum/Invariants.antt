use Rattle.aig_model.specs.Netlist.{Grows}
use Rattle.aig_gates.specs.Ripple.{IsRipple}
use Rattle.aig_gates.proofs.gates.Netlist.sum.Given as goal

abbrev pub invariant-loop-i : goal.invariant-loop-i
invariant-loop-i l = record {
  grows : Grows l.initial.self l.self;
  ripple : IsRipple l.self l.first l.second l.carry l.bits l.over l.i;
}
