use Rattle.std.proofs.Common.{◌≡◌, ◌≤◌, drop}
use Rattle.vl_run.specs.Top.{with_ports}
use Rattle.vl_run.proofs.machine.put_inputs.Given as goal

abbrev pub invariant-loop-i : goal.invariant-loop-i
invariant-loop-i l = record {
  few : l.taken ≤ l.i;
  rest : with_ports (drop l.i l.ports) (drop l.i l.places) (drop l.taken l.inputs) l.tops ≡ with_ports l.ports l.places l.inputs l.initial.tops;
}
