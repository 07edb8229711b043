use Rattle.std.proofs.Common.{arith, ap, ◌∙◌}
use Rattle.toml.specs.View.{items_view}
use Rattle.noc_desc.specs.Document.{range_data}
use Rattle.noc_desc.proofs.Written.{array-more, array-whole}
use Rattle.noc_desc.proofs.write.ranges.Goals as goal

pub loop-element-preserved : goal.loop-element-preserved
loop-element-preserved c =
    ap items_view c.in_ok-push.ensures.items
    ∙ array-more range_data c.args.list.now c.loop-element.element-index _ c.loop-element.items.items _ (omega arith) c.loop-element.invariant c.in_ok-range.ensures

pub returns : goal.returns
returns c =
    array-whole range_data c.args.list.now c.loop-element.element-index c.loop-element.items (omega arith) c.loop-element.invariant
