use Rattle.std.proofs.Common.{◌++◌, ◌∷◌, [], ◌∙◌, ap}
use Rattle.gen_kit.specs.Shape.{tile_instance}
use Rattle.gen_top.proofs.Rows.{map_more}
use Rattle.gen_top.proofs.top.all_instances.Goals as goal

pub loop-tile-preserved : goal.loop-tile-preserved
loop-tile-preserved c =
    map_more (tile_instance c.args.plan.now) c.loop-tile.tile c.args.items.now c.loop-tile.items c.push.new.self
    c.loop-tile.invariant
    (c.in_ok-push.ensures.ok ∙ ap (λ x. c.loop-tile.items ++ x ∷ []) c.in_ok-tile_instance.ensures)
