use Rattle.std.proofs.Common.{sym, arith, ap, ◌∙◌}
use Rattle.flit_word.proofs.Bits.{bits-is}
use Rattle.flit_word.specs.Words.{bits}
use Rattle.gen_router.proofs.order.slot_bits.Goals as goal

pub returns-then-count-pow-clause-value : goal.returns-then-count-pow-clause-value
returns-then-count-pow-clause-value c =
    sym (bits-is c.slots-count.result c.loop-b.b c.loop-b.auto.b (omega (arith, c.if-count-pow.true, c.pow.ensures)) c.loop-b.invariant)
    ∙ ap bits c.slots-count.ensures

pub returns-clause-value : goal.returns-clause-value
returns-clause-value c =
    sym (bits-is c.slots-count.result 8 (omega arith) (omega (arith, c.slots-count.ensures, c.known.ensures.slot_count.1)) (λ k from less. c.loop-b.invariant k from (omega (arith, less, c.loop-b-test.false))))
    ∙ ap bits c.slots-count.ensures
