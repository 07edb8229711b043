use Rattle.std.proofs.Common.{◌≡◌, ◌++◌, drop}
use Rattle.vl_tree.specs.Read.{read_leaves}
use Rattle.vl_tree.specs.Layout.{each_text, leaf_text}
use Rattle.vl_text.proofs.modules.leaves.Given as goal

abbrev pub invariant-loop-l : goal.invariant-loop-l
invariant-loop-l l =
    l.out.items ++ each_text leaf_text (read_leaves (drop l.l-index l.ls)) ≡ l.fn.out.items ++ each_text leaf_text (read_leaves l.ls)
