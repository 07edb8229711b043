use Rattle.std.proofs.Common.{◌≡◌, ◌≤◌, length, map, drop}
use Rattle.vl_tree.specs.Read.{read_leaf}
use Rattle.vl_run.specs.Emit.{place_in}
use Rattle.label_audit.specs.Rows.{row_in}
use Rattle.label_audit.specs.Instances.{shown_row, each_join}
use Rattle.label_audit.proofs.part.show_all.Given as goal

abbrev pub invariant-loop-i : goal.invariant-loop-i
invariant-loop-i l = record {
  within : l.i ≤ length l.joins;
  behind : map row_in l.tops.items
      ≡ each_join (shown_row (read_leaf l.leaf.leaf.now) (place_in l.leaf.declared.now) (place_in l.top) (map row_in l.rows)) (drop l.i l.joins) (map row_in l.initial.tops.items);
}

abbrev pub decreases-loop-i : goal.decreases-loop-i
decreases-loop-i l = l.i
