use Rattle.std.proofs.Common.{◌≡◌, drop}
use Rattle.std.specs.List.{list_all}
use Rattle.vl_tree.specs.Read.{read_leaves}
use Rattle.vl_tree.specs.Plain.{plain_leaf}
use Rattle.vl_tree.proofs.plain.leaves.Given as goal

abbrev pub invariant-loop-l : goal.invariant-loop-l
invariant-loop-l l = list_all plain_leaf (read_leaves l.ls) ≡ list_all plain_leaf (read_leaves (drop l.l-index l.ls))
