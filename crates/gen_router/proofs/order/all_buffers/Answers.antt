use Rattle.vl_tree.specs.Read.{read_leaf}
use Rattle.gen_router.specs.Given.{buffer_part}
use Rattle.leaf_parts.proofs.Loops.{items_none}
use Rattle.gen_router.proofs.Together.{groups_more}
use Rattle.gen_router.proofs.order.all_buffers.Goals as goal

pub loop-port-init : goal.loop-port-init
loop-port-init c = items_none (read_leaf c.args.work.now.leaf)

pub loop-port-preserved : goal.loop-port-preserved
loop-port-preserved c = groups_more c.args.phase (buffer_part c.args.plan.now c.args.tile c.args.domain) c.loop-port.port (read_leaf c.args.work.now.leaf) (read_leaf c.loop-port.work.leaf) (read_leaf c.buffer_part.new.work.leaf) c.loop-port.invariant c.in_ok-buffer_part.ensures
