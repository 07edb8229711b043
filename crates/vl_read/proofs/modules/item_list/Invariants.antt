use Rattle.std.proofs.Common.{◌≡◌, length}
use Rattle.vl_tree.specs.Read.{read_items}
use Rattle.vl_read.specs.View.{placed}
use Rattle.vl_read.specs.Parts as parts
use Rattle.vl_read.specs.Lists.{more_of}
use Rattle.vl_read.proofs.modules.item_list.Given as goal

abbrev pub invariant-items : goal.invariant-items
invariant-items l = more_of (read_items l.items) (parts.items_at (placed l.rest)) ≡ parts.items_at (placed l.ts)

abbrev pub decreases-items : goal.decreases-items
decreases-items l = length (placed l.rest)
