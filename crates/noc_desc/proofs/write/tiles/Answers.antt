use Rattle.std.proofs.Common.{arith, ap, ◌∙◌}
use Rattle.toml.specs.View.{items_view}
use Rattle.noc_desc.specs.Document.{tile_data}
use Rattle.noc_desc.proofs.Written.{array-more, array-whole}
use Rattle.noc_desc.proofs.write.tiles.Goals as goal

pub loop-element-preserved : goal.loop-element-preserved
loop-element-preserved c =
    ap items_view c.in_ok-push.ensures.items
    ∙ array-more tile_data c.args.list.now c.loop-element.element-index c.element-item.result c.loop-element.items.items _ (omega arith) c.loop-element.invariant (c.in_ok-tile.ensures ∙ ap tile_data c.element-item.is)

pub returns : goal.returns
returns c =
    array-whole tile_data c.args.list.now c.loop-element.element-index c.loop-element.items (omega arith) c.loop-element.invariant
