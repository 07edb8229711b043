use Rattle.vl_run.specs.State.{part_settled}
use Rattle.aig_cycle.proofs.Running.{IsTurned}
use Rattle.aig_cycle.proofs.Shorter.{Settling}
use Rattle.aig_cycle.proofs.wires.settle_all.Given as goal

abbrev pub invariant-loop-part : goal.invariant-loop-part
invariant-loop-part l = IsTurned (λ v. part_settled) l.initial.netlist l.netlist l.initial.parts l.parts l.part-index × Settling l.initial.netlist l.netlist l.initial.parts l.parts l.part-index
