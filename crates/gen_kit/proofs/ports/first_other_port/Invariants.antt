use Rattle.std.proofs.Common.{◌≡◌, drop}
use Rattle.gen_kit.specs.Ports.{difference, top_ports}
use Rattle.gen_kit.proofs.ports.first_other_port.Given as goal

abbrev pub invariant-loop-i : goal.invariant-loop-i
invariant-loop-i l =
    difference 0 l.ports (top_ports l.plan) ≡ difference l.i (drop l.i l.ports) (drop l.i (top_ports l.plan))
