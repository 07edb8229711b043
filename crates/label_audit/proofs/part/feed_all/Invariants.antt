use Rattle.std.proofs.Common.{◌≡◌, ◌≤◌, length, map, drop}
use Rattle.vl_tree.specs.Read.{read_leaf}
use Rattle.vl_run.specs.Emit.{place_in}
use Rattle.label_audit.specs.Rows.{row_in}
use Rattle.label_audit.specs.Instances.{fed_row, each_join}
use Rattle.label_audit.proofs.part.feed_all.Given as goal

abbrev pub invariant-loop-i : goal.invariant-loop-i
invariant-loop-i l = record {
  within : l.i ≤ length l.joins;
  behind : map row_in l.rows.items
      ≡ each_join (fed_row (read_leaf l.leaf.leaf.now) (place_in l.leaf.declared.now) (place_in l.top.declared.now) (map row_in l.top.rows.now)) (drop l.i l.joins) (map row_in l.initial.rows.items);
}

abbrev pub decreases-loop-i : goal.decreases-loop-i
decreases-loop-i l = l.i
