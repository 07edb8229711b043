use Rattle.std.proofs.Common.{◌≡◌}
use Rattle.vl_tree.specs.Read.{read_leaf}
use Rattle.vl_model.specs.Laws.{with_items}
use Rattle.gen_kit.specs.Families.{for_each}
use Rattle.leaf_tie.specs.Names.{slot_names}
use Rattle.leaf_tie.specs.Slots.{owned_nets}
use Rattle.leaf_parts.proofs.slot.nets.Given as goal

abbrev pub invariant-loop-domain : goal.invariant-loop-domain
invariant-loop-domain l = read_leaf l.work.leaf ≡ with_items (read_leaf l.fn.work.leaf) (for_each l.domain (owned_nets (slot_names l.first) l.high l.plan.slots))
