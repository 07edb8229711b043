use Rattle.vl_tree.specs.Read.{read_leaf}
use Rattle.leaf_tie.specs.Names.{slot_names}
use Rattle.leaf_tie.specs.Slots.{owned_nets}
use Rattle.leaf_parts.proofs.Loops.{items_none, each_more}
use Rattle.leaf_parts.proofs.slot.nets.Goals as goal

pub loop-domain-init : goal.loop-domain-init
loop-domain-init c = items_none (read_leaf c.args.work.now.leaf)

pub loop-domain-preserved : goal.loop-domain-preserved
loop-domain-preserved c =
    each_more (owned_nets (slot_names c.args.first) c.args.high c.args.plan.now.slots) c.loop-domain.domain (read_leaf c.args.work.now.leaf) (read_leaf c.loop-domain.work.leaf) (read_leaf c.owned_net.new.work.leaf) c.loop-domain.invariant c.in_ok-owned_net.ensures
