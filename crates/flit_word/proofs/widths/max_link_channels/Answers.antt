use Rattle.std.proofs.Common.{max, take, ap, sym, ◌∙◌, arith}
use Rattle.noc_model.specs.Plan.{classes}
use Rattle.flit_word.specs.Words.{max_channels}
use Rattle.flit_word.proofs.Bits.{most-take, most-all}
use Rattle.flit_word.proofs.widths.max_link_channels.Goals as goal

pub loop-d-preserved : goal.loop-d-preserved
loop-d-preserved c =
    let p = c.args.plan.now in
    let d = c.loop-d.d in
    let k = classes p in
    let few = c.link_channels.ensures.few in
    let old = c.loop-d.invariant in
    let is = c.greater-most.ensures in (
      is ∙ ap (λ m. max m c.link_channels.result) old.0
          ∙ ap (λ m. max (max_channels k (take d p.domains)) m) c.link_channels.ensures.value
          ∙ sym (most-take k p.domains d (omega (arith, c.loop-d-test.true, c.domains-d-end.ensures))),
      omega (arith, is, few, old.1),
    )

pub returns-clause-value : goal.returns-clause-value
returns-clause-value c =
    c.loop-d.invariant.0
    ∙ most-all (classes c.args.plan.now) c.args.plan.now.domains c.loop-d.d (omega (arith, c.loop-d-test.false, c.domains-d-end.ensures))
