use Rattle.aig_gates.specs.Memory.{IsStored}
use Rattle.aig_gates.proofs.gates.Netlist.stored.Given as goal

abbrev pub invariant-loop-place : goal.invariant-loop-place
invariant-loop-place l = IsStored l.initial.self l.self l.row l.enable l.index l.value l.all l.place
