use Rattle.std.proofs.Common.{◌≡◌, map, drop}
use Rattle.vl_tree.specs.Read.{read_items}
use Rattle.vl_run.specs.Emit.{place_in}
use Rattle.label_audit.specs.Rows.{row_in, bits_in}
use Rattle.label_audit.specs.Instances.{begun_row, each_item, no_rows}
use Rattle.label_audit.proofs.part.begin.Given as goal

abbrev pub invariant-loop-item : goal.invariant-loop-item
invariant-loop-item l =
    each_item (begun_row (place_in l.declared) (bits_in l.declared)) (read_items l.items) (no_rows l.count) ≡ each_item (begun_row (place_in l.declared) (bits_in l.declared)) (read_items (drop l.item-index l.items)) (map row_in l.rows.items)
