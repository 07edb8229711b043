use Rattle.aig_model.specs.Netlist.{settle_gates}
use Rattle.vl_run.specs.State.{part_edged}
use Rattle.aig_cycle.specs.Wires.{numbers}
use Rattle.aig_cycle.proofs.Running.{IsTurned}
use Rattle.aig_cycle.proofs.Shorter.{Moving}
use Rattle.aig_cycle.proofs.wires.edge_all.Given as goal

abbrev pub invariant-loop-part : goal.invariant-loop-part
invariant-loop-part l = IsTurned (λ v. part_edged (numbers (settle_gates l.initial.netlist v) l.tops)) l.initial.netlist l.netlist l.initial.parts l.parts l.part-index × Moving l.tops l.initial.netlist l.netlist l.initial.parts l.parts l.part-index
