use Rattle.std.proofs.Common.{◌≡◌, take}
use Rattle.gen_kit.specs.Ports.{top_ports}
use Rattle.gen_top.proofs.ports.top_ports.Given as goal

abbrev pub invariant-loop-i : goal.invariant-loop-i
invariant-loop-i l = l.ports ≡ take l.i (top_ports l.plan)
