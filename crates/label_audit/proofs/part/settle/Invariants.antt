use Rattle.std.proofs.Common.{◌≡◌, map, drop}
use Rattle.vl_tree.specs.Read.{read_items}
use Rattle.vl_run.specs.Emit.{place_in}
use Rattle.label_audit.specs.Rows.{row_in}
use Rattle.label_audit.specs.Instances.{assigned_row, each_item}
use Rattle.label_audit.proofs.part.settle.Given as goal

abbrev pub invariant-loop-item : goal.invariant-loop-item
invariant-loop-item l = each_item (assigned_row (place_in l.declared)) (read_items l.items) (map row_in l.initial.rows.items) ≡ each_item (assigned_row (place_in l.declared)) (read_items (drop l.item-index l.items)) (map row_in l.rows.items)
