use Rattle.std.proofs.Common.{◌≡◌, take, min, bytes_eq}
use Rattle.std.specs.Prelude.{count_by}
use Rattle.vl_tree.specs.Values.{Name}
use Rattle.vl_tree.specs.declared.tree.Join.{Join}
use Rattle.vl_rules.specs.Scope.{count}
use Rattle.vl_rules.proofs.driven.port_counts.Given as goal

abbrev pub invariant-loop-join : goal.invariant-loop-join
invariant-loop-join l =
    (n : Name) → count l.table n ≡ min 2 (count_by (λ (j : Join). bytes_eq n j.port) (take l.join-index l.joins))
