use Rattle.vl_tree.specs.Read.{read_leaf}
use Rattle.leaf_parts.specs.declared.phase.Phase.TheVariants.{Nets}
use Rattle.gen_router.specs.Ordered.{its_outs}
use Rattle.leaf_parts.proofs.Loops.{items_none}
use Rattle.gen_router.proofs.Together.{groups_more}
use Rattle.gen_router.proofs.outs.all_domain_outs.Goals as goal

pub loop-domain-init : goal.loop-domain-init
loop-domain-init c = items_none (read_leaf c.args.work.now.leaf)

pub loop-domain-preserved : goal.loop-domain-preserved
loop-domain-preserved c = groups_more Nets (its_outs c.args.plan.now c.args.tile) c.loop-domain.domain (read_leaf c.args.work.now.leaf) (read_leaf c.loop-domain.work.leaf) (read_leaf c.domain_outs.new.work.leaf) c.loop-domain.invariant c.in_ok-domain_outs.ensures
