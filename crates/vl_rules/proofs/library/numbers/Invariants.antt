use Rattle.std.proofs.Common.{◌≡◌, take}
use Rattle.vl_tree.specs.Values.{Name}
use Rattle.vl_tree.specs.Read.{read_leaves}
use Rattle.vl_rules.specs.Names.{found}
use Rattle.vl_rules.specs.Library.{first_leaf}
use Rattle.vl_rules.proofs.library.numbers.Given as goal

abbrev pub invariant-loop-number : goal.invariant-loop-number
invariant-loop-number l = (n : Name) → found l.table n ≡ first_leaf (take l.number (read_leaves l.leaves)) n
