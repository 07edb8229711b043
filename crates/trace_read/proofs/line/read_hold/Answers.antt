use Rattle.std.proofs.Common.{◌∙◌, sym, ap, false, [], ◌∷◌}
use Rattle.trace_read.specs.declared.entries.Entry.TheVariants.{Hold}
use Rattle.trace_read.specs.declared.fault.TraceFault.TheVariants.{WordCount}
use Rattle.trace_read.specs.Text.{fields}
use Rattle.trace_read.proofs.FaultLemmas.{hold_fault, hold_entry}
use Rattle.trace_read.proofs.line.read_hold.Goals as goal

pub returns-in-Err-clause-err : goal.returns-in-Err-clause-err
returns-in-Err-clause-err c =
    hold_fault c.args.plan.now c.args.line c.args.head.now.cycle.now c.args.head.now.tile.now c.args.head.now.domain.now c.args.head.now.verb.now c.args.head.now.value.now (fields c.args.head.now.more.now) c.in_ok-cycle.cycle c.in_ok-tile.tile c.in_ok-count.count
    c.requires c.in_ok-cycle.ensures c.in_ok-tile.ensures c.in_ok-count.ensures
    ∙ c.in-Err.ensures.err ((false, WordCount c.args.line) ∷ [])

pub returns-in-Ok-clause-ok : goal.returns-in-Ok-clause-ok
returns-in-Ok-clause-ok c = (
  hold_fault c.args.plan.now c.args.line c.args.head.now.cycle.now c.args.head.now.tile.now c.args.head.now.domain.now c.args.head.now.verb.now c.args.head.now.value.now (fields c.args.head.now.more.now) c.in_ok-cycle.cycle c.in_ok-tile.tile c.in_ok-count.count
      c.requires c.in_ok-cycle.ensures c.in_ok-tile.ensures c.in_ok-count.ensures
      ∙ c.in-Ok.ensures.ok.1 ((false, WordCount c.args.line) ∷ []),
  ap (λ j. Hold c.in_ok-cycle.cycle j c.in_ok-count.count) c.in-Ok.ensures.ok.0
      ∙ sym (hold_entry c.args.plan.now c.args.head.now.cycle.now c.args.head.now.tile.now c.args.head.now.domain.now c.args.head.now.verb.now c.args.head.now.value.now (fields c.args.head.now.more.now) c.in_ok-cycle.cycle c.in_ok-tile.tile c.in_ok-count.count
      c.requires c.in_ok-cycle.ensures c.in_ok-tile.ensures c.in_ok-count.ensures),
)
