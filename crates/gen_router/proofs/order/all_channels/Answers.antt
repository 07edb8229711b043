use Rattle.vl_tree.specs.Read.{read_leaf}
use Rattle.gen_router.specs.Ordered.{its_channel}
use Rattle.leaf_parts.proofs.Loops.{items_none}
use Rattle.gen_router.proofs.Together.{groups_more}
use Rattle.gen_router.proofs.order.all_channels.Goals as goal

pub loop-channel-init : goal.loop-channel-init
loop-channel-init c = items_none (read_leaf c.args.work.now.leaf)

pub loop-channel-preserved : goal.loop-channel-preserved
loop-channel-preserved c = groups_more c.args.phase (its_channel c.args.plan.now c.args.tile c.args.domain c.args.out) c.loop-channel.channel (read_leaf c.args.work.now.leaf) (read_leaf c.loop-channel.work.leaf) (read_leaf c.channel_part.new.work.leaf) c.loop-channel.invariant c.in_ok-channel_part.ensures
