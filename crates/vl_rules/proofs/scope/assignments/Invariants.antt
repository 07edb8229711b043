use Rattle.std.proofs.Common.{◌≡◌, take}
use Rattle.std.specs.List.{position_from}
use Rattle.vl_tree.specs.Values.{Name}
use Rattle.vl_model.specs.Rules.{assigns}
use Rattle.vl_rules.specs.Names.{found}
use Rattle.vl_rules.specs.Lines.{lines_of}
use Rattle.vl_rules.proofs.scope.assignments.Given as goal

abbrev pub invariant-loop-number : goal.invariant-loop-number
invariant-loop-number l =
    (n : Name) → found l.table n ≡ position_from (assigns n) 0 (take l.number (lines_of l.subject))
