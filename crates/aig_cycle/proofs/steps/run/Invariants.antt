use Rattle.aig_cycle.proofs.Running.{IsRunning}
use Rattle.aig_cycle.proofs.Shorter.{RunsShort}
use Rattle.aig_cycle.proofs.steps.run.Given as goal

abbrev pub invariant-loop-step : goal.invariant-loop-step
invariant-loop-step l = IsRunning l.initial.netlist l.netlist l.steps l.initial.nets.items l.nets.items l.memories l.step-index × RunsShort l.initial.netlist l.netlist l.steps l.initial.nets.items l.nets.items l.step-index
