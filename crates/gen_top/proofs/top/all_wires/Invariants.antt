use Rattle.std.proofs.Common.{◌≡◌, ◌++◌, flat_map}
use Rattle.gen_kit.specs.Shape.{tile_wires}
use Rattle.gen_top.specs.Joined.{below}
use Rattle.gen_top.proofs.top.all_wires.Given as goal

abbrev pub invariant-loop-tile : goal.invariant-loop-tile
invariant-loop-tile l = l.items ≡ l.fn.items ++ flat_map (tile_wires l.plan) (below l.tile)
