use Rattle.std.proofs.Common.{◌≡◌, take}
use Rattle.vl_tree.specs.Values.{Name}
use Rattle.vl_rules.specs.Names.{found}
use Rattle.vl_rules.specs.Lines.{lines_of}
use Rattle.vl_rules.proofs.Noted.{noted}
use Rattle.vl_rules.proofs.scope.declarations.Given as goal

abbrev pub invariant-loop-number : goal.invariant-loop-number
invariant-loop-number l = (n : Name) → found l.table n ≡ noted 0 (take l.number (lines_of l.subject)) n
