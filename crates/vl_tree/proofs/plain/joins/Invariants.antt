use Rattle.std.proofs.Common.{◌≡◌, drop}
use Rattle.std.specs.List.{list_all}
use Rattle.vl_tree.specs.Plain.{plain_join}
use Rattle.vl_tree.proofs.plain.joins.Given as goal

abbrev pub invariant-loop-j : goal.invariant-loop-j
invariant-loop-j l = list_all plain_join l.js ≡ list_all plain_join ((drop l.j-index l.js))
