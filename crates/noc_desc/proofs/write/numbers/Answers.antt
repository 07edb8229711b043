use Rattle.std.proofs.Common.{arith, ap, ◌∙◌}
use Rattle.toml.specs.View.{items_view}
use Rattle.toml.specs.Data.{integer}
use Rattle.noc_desc.proofs.Written.{array-more, array-whole}
use Rattle.noc_desc.proofs.write.numbers.Goals as goal

pub loop-element-preserved : goal.loop-element-preserved
loop-element-preserved c =
    ap items_view c.in_ok-push.ensures.items
    ∙ array-more integer c.args.list.now c.loop-element.element-index _ c.loop-element.items.items _ (omega arith) c.loop-element.invariant c.number.ensures

pub returns : goal.returns
returns c =
    array-whole integer c.args.list.now c.loop-element.element-index c.loop-element.items (omega arith) c.loop-element.invariant
