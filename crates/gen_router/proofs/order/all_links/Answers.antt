use Rattle.vl_tree.specs.Read.{read_leaf}
use Rattle.gen_router.specs.Given.{link_part}
use Rattle.leaf_parts.proofs.Loops.{items_none}
use Rattle.gen_router.proofs.Together.{groups_more}
use Rattle.gen_router.proofs.order.all_links.Goals as goal

pub loop-out-init : goal.loop-out-init
loop-out-init c = items_none (read_leaf c.args.work.now.leaf)

pub loop-out-preserved : goal.loop-out-preserved
loop-out-preserved c = groups_more c.args.phase (link_part c.args.plan.now c.args.tile) c.loop-out.out (read_leaf c.args.work.now.leaf) (read_leaf c.loop-out.work.leaf) (read_leaf c.link_part.new.work.leaf) c.loop-out.invariant c.in_ok-link_part.ensures
