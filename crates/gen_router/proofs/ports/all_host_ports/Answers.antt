use Rattle.vl_tree.specs.Read.{read_leaf}
use Rattle.gen_router.proofs.Ported.{ports_none, hosts_more}
use Rattle.gen_router.proofs.ports.all_host_ports.Goals as goal

pub loop-j-init : goal.loop-j-init
loop-j-init c = ports_none (read_leaf c.args.work.now.leaf)

pub loop-j-preserved : goal.loop-j-preserved
loop-j-preserved c =
    hosts_more c.args.tile c.loop-j.j c.args.plan.now.hosts c.attach.result (read_leaf c.args.work.now.leaf) (read_leaf c.loop-j.work.leaf) (read_leaf c.host_part.new.work.leaf) c.attach.ensures c.loop-j.invariant c.in_ok-host_part.ensures
