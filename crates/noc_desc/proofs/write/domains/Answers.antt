use Rattle.std.proofs.Common.{arith, ap, ◌∙◌}
use Rattle.toml.specs.View.{items_view}
use Rattle.noc_desc.specs.Document.{domain_data}
use Rattle.noc_desc.proofs.Written.{array-more, array-whole}
use Rattle.noc_desc.proofs.write.domains.Goals as goal

pub loop-element-preserved : goal.loop-element-preserved
loop-element-preserved c =
    ap items_view c.in_ok-push.ensures.items
    ∙ array-more domain_data c.args.list.now c.loop-element.element-index c.element-item.result c.loop-element.items.items _ (omega arith) c.loop-element.invariant (c.in_ok-domain.ensures ∙ ap domain_data c.element-item.is)

pub returns : goal.returns
returns c =
    array-whole domain_data c.args.list.now c.loop-element.element-index c.loop-element.items (omega arith) c.loop-element.invariant
