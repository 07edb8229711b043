use Rattle.noc_model.specs.Place.{neighbour}
use Rattle.gen_kit.specs.Shape.{link_wires}
use Rattle.gen_top.proofs.Rows.{flat_more}
use Rattle.gen_top.proofs.wires.tile_wires.Goals as goal

pub loop-port-preserved : goal.loop-port-preserved
loop-port-preserved c =
    flat_more (λ q. link_wires c.args.plan.now c.args.tile q (neighbour c.args.plan.now c.args.tile q))
    c.loop-port.port c.args.items.now c.loop-port.items c.link_wires.new.items
    c.loop-port.invariant c.in_ok-link_wires.ensures
