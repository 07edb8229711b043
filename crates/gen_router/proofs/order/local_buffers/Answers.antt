use Rattle.std.proofs.Common.{[], ◌∷◌}
use Rattle.vl_tree.specs.Read.{read_leaf}
use Rattle.gen_router.specs.Ordered.{entered_buffer}
use Rattle.leaf_parts.proofs.Loops.{items_none}
use Rattle.gen_router.proofs.Together.{groups_more, one_group}
use Rattle.gen_router.proofs.order.local_buffers.Goals as goal

pub loop-channel-init : goal.loop-channel-init
loop-channel-init c = items_none (read_leaf c.args.work.now.leaf)

pub loop-channel-preserved : goal.loop-channel-preserved
loop-channel-preserved c = groups_more c.args.phase (λ x. entered_buffer c.args.plan.now c.args.domain x ∷ []) c.loop-channel.channel (read_leaf c.args.work.now.leaf) (read_leaf c.loop-channel.work.leaf) (read_leaf c.local_buffer.new.work.leaf) c.loop-channel.invariant (one_group c.args.phase (entered_buffer c.args.plan.now c.args.domain c.loop-channel.channel) (read_leaf c.loop-channel.work.leaf) (read_leaf c.local_buffer.new.work.leaf) c.in_ok-local_buffer.ensures)
