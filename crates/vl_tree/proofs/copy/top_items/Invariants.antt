use Rattle.std.proofs.Common.{◌≡◌, take}
use Rattle.vl_tree.proofs.copy.top_items.Given as goal

abbrev pub invariant-loop-it : goal.invariant-loop-it
invariant-loop-it l = l.copies ≡ take l.it-index l.its
