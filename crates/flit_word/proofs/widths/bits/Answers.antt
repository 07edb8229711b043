use Rattle.std.proofs.Common.{sym, arith}
use Rattle.flit_word.proofs.Bits.{bits-is, least-is}
use Rattle.flit_word.proofs.widths.bits.Goals as goal

pub returns-then-n-pow-clause-value : goal.returns-then-n-pow-clause-value
returns-then-n-pow-clause-value c =
    sym (bits-is c.args.n c.loop-b.b c.loop-b.auto.b (omega (arith, c.if-n-pow.true, c.pow.ensures)) c.loop-b.invariant)

pub returns-then-n-pow-clause-least : goal.returns-then-n-pow-clause-least
returns-then-n-pow-clause-least c = least-is c.args.n c.loop-b.b c.loop-b.invariant

pub returns-clause-value : goal.returns-clause-value
returns-clause-value c =
    sym (bits-is c.args.n 8 (omega arith) (omega (arith, c.requires)) (λ k from less. c.loop-b.invariant k from (omega (arith, less, c.loop-b-test.false))))

pub returns-clause-least : goal.returns-clause-least
returns-clause-least c =
    least-is c.args.n 8 (λ k from less. c.loop-b.invariant k from (omega (arith, less, c.loop-b-test.false)))
