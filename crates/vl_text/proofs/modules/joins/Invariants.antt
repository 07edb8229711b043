use Rattle.std.proofs.Common.{◌≡◌, ◌++◌, drop}
use Rattle.vl_tree.specs.Layout.{each_text, join_text}
use Rattle.vl_text.proofs.modules.joins.Given as goal

abbrev pub invariant-loop-j : goal.invariant-loop-j
invariant-loop-j l =
    l.out.items ++ each_text join_text (drop l.j-index l.js) ≡ l.fn.out.items ++ each_text join_text (l.js)
