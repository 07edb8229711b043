use Rattle.std.proofs.Common.{◌≡◌, drop, bytes_eq}
use Rattle.std.specs.Prelude.{count_by, ◌==◌}
use Rattle.std.specs.List.{list_all}
use Rattle.vl_tree.specs.declared.tree.Port.{Port}
use Rattle.vl_tree.specs.declared.tree.Join.{Join}
use Rattle.vl_rules.proofs.driven.each_once.Given as goal

abbrev pub invariant-loop-port : goal.invariant-loop-port
invariant-loop-port l =
    let once = λ (p : Port). count_by (λ (j : Join). bytes_eq p.name j.port) l.joins == 1 in
    list_all once l.ports ≡ list_all once (drop l.port-index l.ports)
