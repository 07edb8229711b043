use Rattle.std.proofs.Common.{◌≡◌, drop}
use Rattle.std.specs.List.{list_all}
use Rattle.vl_tree.specs.Read.{read_items}
use Rattle.vl_tree.specs.Plain.{plain_item}
use Rattle.vl_tree.proofs.plain.items.Given as goal

abbrev pub invariant-loop-it : goal.invariant-loop-it
invariant-loop-it l = list_all plain_item (read_items l.its) ≡ list_all plain_item (read_items (drop l.it-index l.its))
