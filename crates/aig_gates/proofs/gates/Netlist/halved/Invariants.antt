use Rattle.aig_gates.specs.Memory.{IsHalved}
use Rattle.aig_gates.proofs.gates.Netlist.halved.Given as goal

abbrev pub invariant-loop-place : goal.invariant-loop-place
invariant-loop-place l = IsHalved l.initial.self l.self l.row l.bit l.half l.place
