use Rattle.std.proofs.Common.{ap, ◌∙◌}
use Rattle.vl_tree.specs.Read.{read_leaf}
use Rattle.noc_model.specs.Plan.{ports}
use Rattle.gen_router.specs.Ports.{with_ports, tile_hosts, tile_links}
use Rattle.gen_router.proofs.Ported.{ports_more, ports_are}
use Rattle.gen_router.proofs.ports.tile_ports.Goals as goal

pub returns : goal.returns
returns c =
    let p = c.args.plan.now in
    ports_more (read_leaf c.args.work.now.leaf) (read_leaf c.all_host_ports.new.work.leaf) (read_leaf c.all_link_ports.new.work.leaf) (tile_hosts c.args.tile p.hosts) (tile_links p c.args.tile (ports p))
    c.in_ok-all_host_ports.ensures c.in_ok-all_link_ports.ensures
    ∙ ap (with_ports (read_leaf c.args.work.now.leaf)) (ports_are p c.args.tile)
