use Rattle.std.proofs.Common.{◌≡◌, map}
use Rattle.vl_tree.specs.Read.{read_leaves}
use Rattle.leaf_tie.specs.Names.{leaf_module}
use Rattle.gen_top.specs.Joined.{below}
use Rattle.gen_top.proofs.design.all_leaves.Given as goal

abbrev pub invariant-loop-tile : goal.invariant-loop-tile
invariant-loop-tile l = read_leaves l.leaves ≡ map (leaf_module l.plan) (below l.tile)
