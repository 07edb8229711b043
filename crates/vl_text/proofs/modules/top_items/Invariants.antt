use Rattle.std.proofs.Common.{◌≡◌, ◌++◌, drop}
use Rattle.vl_tree.specs.Layout.{each_text, top_item_text}
use Rattle.vl_text.proofs.modules.top_items.Given as goal

abbrev pub invariant-loop-it : goal.invariant-loop-it
invariant-loop-it l =
    l.out.items ++ each_text top_item_text (drop l.it-index l.its) ≡ l.fn.out.items ++ each_text top_item_text (l.its)
