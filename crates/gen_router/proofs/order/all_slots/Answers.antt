use Rattle.vl_tree.specs.Read.{read_leaf}
use Rattle.gen_router.specs.Given.{slot_part}
use Rattle.leaf_parts.proofs.Loops.{items_none}
use Rattle.gen_router.proofs.Together.{groups_more}
use Rattle.gen_router.proofs.order.all_slots.Goals as goal

pub loop-slot-init : goal.loop-slot-init
loop-slot-init c = items_none (read_leaf c.args.work.now.leaf)

pub loop-slot-preserved : goal.loop-slot-preserved
loop-slot-preserved c = groups_more c.args.phase (slot_part c.args.plan.now c.args.tile) c.loop-slot.slot (read_leaf c.args.work.now.leaf) (read_leaf c.loop-slot.work.leaf) (read_leaf c.slot_part.new.work.leaf) c.loop-slot.invariant c.in_ok-slot_part.ensures
