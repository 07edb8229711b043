use Rattle.vl_tree.specs.Read.{read_leaf}
use Rattle.gen_router.specs.Ordered.{its_groups}
use Rattle.leaf_parts.proofs.Loops.{items_none}
use Rattle.gen_router.proofs.Together.{groups_more}
use Rattle.gen_router.proofs.order.all_domains.Goals as goal

pub loop-domain-init : goal.loop-domain-init
loop-domain-init c = items_none (read_leaf c.args.work.now.leaf)

pub loop-domain-preserved : goal.loop-domain-preserved
loop-domain-preserved c = groups_more c.args.phase (its_groups c.args.plan.now c.args.tile) c.loop-domain.domain (read_leaf c.args.work.now.leaf) (read_leaf c.loop-domain.work.leaf) (read_leaf c.domain_groups.new.work.leaf) c.loop-domain.invariant c.in_ok-domain_groups.ensures
