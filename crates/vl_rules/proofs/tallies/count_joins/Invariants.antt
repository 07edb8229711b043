use Rattle.std.proofs.Common.{◌≡◌, ◌+◌, take, min}
use Rattle.std.specs.Prelude.{count_by}
use Rattle.vl_tree.specs.Values.{Name}
use Rattle.vl_tree.specs.Read.{read_leaf}
use Rattle.vl_model.specs.Rules.{join_drives}
use Rattle.vl_rules.specs.Scope.{count}
use Rattle.vl_rules.proofs.tallies.count_joins.Given as goal

abbrev pub invariant-loop-join : goal.invariant-loop-join
invariant-loop-join l =
    (n : Name) → count l.table n ≡ min 2 (count l.initial.table n + count_by (join_drives (read_leaf l.known.leaf.now) n) (take l.join-index l.joins))
