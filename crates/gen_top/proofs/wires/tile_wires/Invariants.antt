use Rattle.std.proofs.Common.{◌≡◌, ◌++◌}
use Rattle.gen_top.specs.Joined.{wires_below}
use Rattle.gen_top.proofs.wires.tile_wires.Given as goal

abbrev pub invariant-loop-port : goal.invariant-loop-port
invariant-loop-port l = l.items ≡ l.fn.items ++ wires_below l.plan l.tile l.port
