use Rattle.std.proofs.Common.{◌≡◌, drop}
use Rattle.vl_tree.specs.Read.{read_leaves}
use Rattle.vl_model.specs.Lines.{leaf_named}
use Rattle.vl_run.proofs.put.leaf_named.Given as goal

abbrev pub invariant-loop-leaf : goal.invariant-loop-leaf
invariant-loop-leaf l = leaf_named (read_leaves (drop l.leaf-index l.leaves)) l.name ≡ leaf_named (read_leaves l.leaves) l.name
