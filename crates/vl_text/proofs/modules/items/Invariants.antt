use Rattle.std.proofs.Common.{◌≡◌, ◌++◌, drop}
use Rattle.vl_tree.specs.Read.{read_items}
use Rattle.vl_tree.specs.Layout.{each_text, item_text}
use Rattle.vl_text.proofs.modules.items.Given as goal

abbrev pub invariant-loop-it : goal.invariant-loop-it
invariant-loop-it l =
    l.out.items ++ each_text item_text (read_items (drop l.it-index l.its)) ≡ l.fn.out.items ++ each_text item_text (read_items l.its)
