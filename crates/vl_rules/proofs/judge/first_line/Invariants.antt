use Rattle.std.proofs.Common.{◌≡◌, [], length, take, None}
use Rattle.std.specs.List.{position_from}
use Rattle.vl_tree.specs.Read.{read_leaves}
use Rattle.vl_model.specs.Lines.{leaf_sites}
use Rattle.vl_rules.specs.Check.{rule_of}
use Rattle.vl_rules.proofs.judge.first_line.Given as goal

abbrev pub invariant-loop-number : goal.invariant-loop-number
invariant-loop-number l = record {
  start : l.start ≡ length (leaf_sites [] (take l.number (read_leaves l.library.leaves.now)));
  none : position_from (rule_of l.rule).1 0 (leaf_sites [] (take l.number (read_leaves l.library.leaves.now))) ≡ None;
}
