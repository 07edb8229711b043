use Rattle.std.proofs.Common.{◌≡◌, take}
use Rattle.vl_tree.proofs.copy.joins.Given as goal

abbrev pub invariant-loop-j : goal.invariant-loop-j
invariant-loop-j l = l.copies ≡ take l.j-index l.js
