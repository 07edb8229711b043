use Rattle.std.proofs.Common.{◌∙◌, sym, bytes_eq}
use Rattle.std.specs.Prelude.{count_by, ◌==◌}
use Rattle.vl_tree.specs.declared.tree.Port.{Port}
use Rattle.vl_tree.specs.declared.tree.Join.{Join}
use Rattle.vl_rules.proofs.Judged.{all-stops}
use Rattle.vl_rules.proofs.driven.each_once.Goals as goal

pub returns-then-not-is_once : goal.returns-then-not-is_once
returns-then-not-is_once c =
    sym (c.loop-port.invariant
    ∙ all-stops (λ (p : Port). count_by (λ (j : Join). bytes_eq p.name j.port) c.args.joins.now == 1) c.args.ports.now c.loop-port.port-index c.port-item.result c.loop-port-test.true c.port-item.is
    (sym c.if-not-is_once.ensures))
