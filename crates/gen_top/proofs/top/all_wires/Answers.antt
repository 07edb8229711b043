use Rattle.gen_kit.specs.Shape.{tile_wires}
use Rattle.gen_top.proofs.Rows.{flat_more}
use Rattle.gen_top.proofs.top.all_wires.Goals as goal

pub loop-tile-preserved : goal.loop-tile-preserved
loop-tile-preserved c =
    flat_more (tile_wires c.args.plan.now) c.loop-tile.tile c.args.items.now c.loop-tile.items
    c.tile_wires.new.items c.loop-tile.invariant c.in_ok-tile_wires.ensures
