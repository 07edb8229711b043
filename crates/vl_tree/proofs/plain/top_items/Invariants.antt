use Rattle.std.proofs.Common.{◌≡◌, drop}
use Rattle.std.specs.List.{list_all}
use Rattle.vl_tree.specs.Plain.{plain_top_item}
use Rattle.vl_tree.proofs.plain.top_items.Given as goal

abbrev pub invariant-loop-it : goal.invariant-loop-it
invariant-loop-it l = list_all plain_top_item l.its ≡ list_all plain_top_item ((drop l.it-index l.its))
