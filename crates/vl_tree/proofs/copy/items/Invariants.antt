use Rattle.std.proofs.Common.{◌≡◌, take}
use Rattle.vl_tree.specs.Read.{read_items}
use Rattle.vl_tree.proofs.copy.items.Given as goal

abbrev pub invariant-loop-it : goal.invariant-loop-it
invariant-loop-it l = read_items l.copies ≡ read_items (take l.it-index l.its)
