use Rattle.std.proofs.Common.{◌≡◌, ◌≤◌, ◌+◌, drop, length, filter}
use Rattle.vl_tree.specs.Read.{read_leaf}
use Rattle.vl_model.specs.Laws.{with_items}
use Rattle.leaf_parts.specs.Entries.{is_reached, range_nets}
use Rattle.leaf_parts.proofs.attach.look_nets.Given as goal

abbrev pub invariant-loop-i : goal.invariant-loop-i
invariant-loop-i l = record {
  within : l.i ≤ length l.plan.ranges;
  few : l.count + l.i ≤ length l.plan.ranges;
  count : l.count ≡ length (filter (is_reached l.plan l.domain) (drop l.i l.plan.ranges));
  items : read_leaf l.work.leaf ≡ with_items (read_leaf l.fn.work.leaf) (range_nets l.plan l.tile l.domain (drop l.i l.plan.ranges));
}

abbrev pub decreases-loop-i : goal.decreases-loop-i
decreases-loop-i l = l.i
