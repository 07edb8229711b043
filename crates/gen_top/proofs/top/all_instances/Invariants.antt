use Rattle.std.proofs.Common.{◌≡◌, ◌++◌, map}
use Rattle.gen_kit.specs.Shape.{tile_instance}
use Rattle.gen_top.specs.Joined.{below}
use Rattle.gen_top.proofs.top.all_instances.Given as goal

abbrev pub invariant-loop-tile : goal.invariant-loop-tile
invariant-loop-tile l = l.items ≡ l.fn.items ++ map (tile_instance l.plan) (below l.tile)
