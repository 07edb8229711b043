use Rattle.std.proofs.Common.{◌∙◌, sym, ap, Bool, ◌||◌, true, false, [], ◌∷◌, length}
use Rattle.std.specs.Prelude.{◌==◌, nat_lt}
use Rattle.trace_read.specs.declared.entries.Entry.TheVariants.{Send}
use Rattle.trace_read.specs.declared.fault.TraceFault.TheVariants.{WordCount}
use Rattle.trace_read.specs.Text.{fields}
use Rattle.trace_read.specs.Entries.{attach_named}
use Rattle.trace_read.specs.Faults.{first_of}
use Rattle.trace_read.proofs.FaultLemmas.{send_fault, send_entry, memory_or, counted}
use Rattle.trace_read.proofs.line.read_send.Goals as goal

pub returns-in-Err-clause-err : goal.returns-in-Err-clause-err
returns-in-Err-clause-err c = memory_or c.in-Err.fault
    (send_fault c.args.plan.now c.args.line c.args.head.now.cycle.now c.args.head.now.tile.now c.args.head.now.domain.now c.args.head.now.verb.now c.args.head.now.value.now (fields c.args.head.now.more.now) c.in_ok-cycle.cycle c.in_ok-tile.tile c.in_ok-address.address
    c.requires c.in_ok-cycle.ensures c.in_ok-tile.ensures c.in_ok-address.ensures c.in_ok-words.ensures.ok.0
    ∙ c.in-Err.ensures.err (((length (fields c.args.head.now.more.now) == 0) || nat_lt 256 (length (fields c.args.head.now.more.now)), WordCount c.args.line) ∷ []))

pub returns-in-Ok-clause-err : goal.returns-in-Ok-clause-err
returns-in-Ok-clause-err c =
    send_fault c.args.plan.now c.args.line c.args.head.now.cycle.now c.args.head.now.tile.now c.args.head.now.domain.now c.args.head.now.verb.now c.args.head.now.value.now (fields c.args.head.now.more.now) c.in_ok-cycle.cycle c.in_ok-tile.tile c.in_ok-address.address
    c.requires c.in_ok-cycle.ensures c.in_ok-tile.ensures c.in_ok-address.ensures c.in_ok-words.ensures.ok.0
    ∙ c.in-Ok.ensures.ok.1 (((length (fields c.args.head.now.more.now) == 0) || nat_lt 256 (length (fields c.args.head.now.more.now)), WordCount c.args.line) ∷ [])
    ∙ ap (λ (t : Bool). first_of ((t, WordCount c.args.line) ∷ [])) (counted c.in_ok-words.words (fields c.args.head.now.more.now) c.is_miscounted.result true c.in_ok-words.ensures.ok.1 c.is_miscounted.ensures c.if-is_miscounted.true)

pub returns-in-Ok-2-clause-ok : goal.returns-in-Ok-2-clause-ok
returns-in-Ok-2-clause-ok c = (
  send_fault c.args.plan.now c.args.line c.args.head.now.cycle.now c.args.head.now.tile.now c.args.head.now.domain.now c.args.head.now.verb.now c.args.head.now.value.now (fields c.args.head.now.more.now) c.in_ok-cycle.cycle c.in_ok-tile.tile c.in_ok-address.address
      c.requires c.in_ok-cycle.ensures c.in_ok-tile.ensures c.in_ok-address.ensures c.in_ok-words.ensures.ok.0
      ∙ c.in-Ok.ensures.ok.1 (((length (fields c.args.head.now.more.now) == 0) || nat_lt 256 (length (fields c.args.head.now.more.now)), WordCount c.args.line) ∷ [])
      ∙ ap (λ (t : Bool). first_of ((t, WordCount c.args.line) ∷ [])) (counted c.in_ok-words.words (fields c.args.head.now.more.now) c.is_miscounted.result false c.in_ok-words.ensures.ok.1 c.is_miscounted.ensures c.if-is_miscounted.false),
  ap (λ j. Send c.in_ok-cycle.cycle j c.in_ok-address.address c.in_ok-words.words) c.in-Ok.ensures.ok.0
      ∙ ap (λ ws. Send c.in_ok-cycle.cycle (attach_named c.args.plan.now c.in_ok-tile.tile c.args.head.now.domain.now) c.in_ok-address.address ws) c.in_ok-words.ensures.ok.1
      ∙ sym (send_entry c.args.plan.now c.args.head.now.cycle.now c.args.head.now.tile.now c.args.head.now.domain.now c.args.head.now.verb.now c.args.head.now.value.now (fields c.args.head.now.more.now) c.in_ok-cycle.cycle c.in_ok-tile.tile c.in_ok-address.address
      c.requires c.in_ok-cycle.ensures c.in_ok-tile.ensures c.in_ok-address.ensures),
)
