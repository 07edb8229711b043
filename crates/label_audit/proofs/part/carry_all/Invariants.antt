use Rattle.std.proofs.Common.{◌≡◌, map, drop}
use Rattle.vl_tree.specs.Read.{read_items}
use Rattle.vl_run.specs.Emit.{place_in}
use Rattle.label_audit.specs.Rows.{row_in}
use Rattle.label_audit.specs.Instances.{carried_row, each_item, no_rows}
use Rattle.label_audit.proofs.part.carry_all.Given as goal

abbrev pub invariant-loop-item : goal.invariant-loop-item
invariant-loop-item l = each_item (carried_row (place_in l.scope.declared.now) (map row_in l.scope.rows.now)) (read_items l.items) (no_rows l.count) ≡ each_item (carried_row (place_in l.scope.declared.now) (map row_in l.scope.rows.now)) (read_items (drop l.item-index l.items)) (map row_in l.next.items)
