use Rattle.vl_tree.specs.Read.{read_leaf}
use Rattle.leaf_parts.specs.Parts.{active_heads}
use Rattle.leaf_parts.proofs.Loops.{items_none, each_more}
use Rattle.leaf_parts.proofs.alloc.all_active_heads.Goals as goal

pub loop-channel-init : goal.loop-channel-init
loop-channel-init c = items_none (read_leaf c.args.work.now.leaf)

pub loop-channel-preserved : goal.loop-channel-preserved
loop-channel-preserved c =
    each_more (active_heads c.args.plan.now c.args.domain c.args.out) c.loop-channel.channel (read_leaf c.args.work.now.leaf) (read_leaf c.loop-channel.work.leaf) (read_leaf c.active_head.new.work.leaf) c.loop-channel.invariant c.in_ok-active_head.ensures
