use Rattle.vl_tree.specs.Read.{read_leaf}
use Rattle.gen_router.specs.Ports.{offer_ports, ejection_ports}
use Rattle.gen_router.proofs.Ported.{ports_more}
use Rattle.gen_router.proofs.ports.host_ports.Goals as goal

pub returns : goal.returns
returns c =
    ports_more (read_leaf c.args.work.now.leaf) (read_leaf c.offer_ports.new.work.leaf) (read_leaf c.ejection_ports.new.work.leaf) (offer_ports c.args.host.tile c.args.host.domain)
    (ejection_ports c.args.host.tile c.args.host.domain) c.in_ok-offer_ports.ensures c.in_ok-ejection_ports.ensures
