use Rattle.std.proofs.Common.{◌≡◌, [], ◌++◌, map, drop}
use Rattle.vl_tree.specs.Read.{read_leaves}
use Rattle.vl_model.specs.Lines.{leaf_sites, module_sites, top_lines}
use Rattle.vl_model.specs.Rules.{first_fault_of}
use Rattle.vl_rules.specs.Check.{rule_of}
use Rattle.vl_rules.proofs.judge.first_of.Given as goal

abbrev pub invariant-loop-rule : goal.invariant-loop-rule
invariant-loop-rule l =
    let sites =
    leaf_sites [] (read_leaves l.library.leaves.now) ++ module_sites (read_leaves l.library.leaves.now) (top_lines l.top) in
    first_fault_of (map rule_of l.rules) sites ≡ first_fault_of (map rule_of (drop l.rule-index l.rules)) sites
