use Rattle.vl_tree.specs.Read.{read_leaf}
use Rattle.gen_router.proofs.Ported.{ports_none, links_more}
use Rattle.gen_router.proofs.ports.all_link_ports.Goals as goal

pub loop-out-init : goal.loop-out-init
loop-out-init c = ports_none (read_leaf c.args.work.now.leaf)

pub loop-out-preserved : goal.loop-out-preserved
loop-out-preserved c =
    links_more c.args.plan.now c.args.tile c.loop-out.out (read_leaf c.args.work.now.leaf) (read_leaf c.loop-out.work.leaf) (read_leaf c.link_ports.new.work.leaf) c.loop-out.invariant c.in_ok-link_ports.ensures
