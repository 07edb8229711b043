use Rattle.std.proofs.Common.{◌≡◌, length}
use Rattle.vl_read.specs.View.{placed}
use Rattle.vl_read.specs.Parts as parts
use Rattle.vl_read.specs.Lists.{more_of}
use Rattle.vl_read.proofs.modules.top_list.Given as goal

abbrev pub invariant-items : goal.invariant-items
invariant-items l = more_of (l.items) (parts.top_items_at (placed l.rest)) ≡ parts.top_items_at (placed l.ts)

abbrev pub decreases-items : goal.decreases-items
decreases-items l = length (placed l.rest)
