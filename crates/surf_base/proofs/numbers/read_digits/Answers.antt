use Rattle.std.proofs.Common.{sym, arith}
use Rattle.std.proofs.lemmas.Int.Digits.{digits_value-lt}
use Rattle.surf_base.proofs.NumbersLemmas.{AllDigits-at, Reads-next, Reads-next_small, Reads-all}
use Rattle.surf_base.proofs.numbers.read_digits.Goals as goal

pub returns-in_err-digit-clause-value : goal.returns-in_err-digit-clause-value
returns-in_err-digit-clause-value c =
    rw c.from_residual.ensures (λ all. c.in_err-digit.ensures.value (rw c.from.ensures (AllDigits-at c.args.radix c.args.bytes.now c.loop-byte.byte-index (omega arith) all)))

pub overflow_mul-value : goal.overflow_mul-value
overflow_mul-value c =
    let small =
    Reads-next_small c.args.radix c.args.bytes.now c.loop-byte.byte-index c.loop-byte.value c.from.result c.in_ok-digit.digit (omega arith) c.requires.high c.requires.short (omega arith) c.from.ensures c.in_ok-digit.ensures.value.0 (sym c.in_ok-digit.ensures.value.1) c.loop-byte.invariant in
    rw c.from-in-loop-byte.ensures (omega (arith, small))

pub overflow_add-value : goal.overflow_add-value
overflow_add-value c =
    let small =
    Reads-next_small c.args.radix c.args.bytes.now c.loop-byte.byte-index c.loop-byte.value c.from.result c.in_ok-digit.digit (omega arith) c.requires.high c.requires.short (omega arith) c.from.ensures c.in_ok-digit.ensures.value.0 (sym c.in_ok-digit.ensures.value.1) c.loop-byte.invariant in
    rw (c.from-in-loop-byte.ensures, c.from-in-loop-byte-2.ensures) (omega (arith, small))

pub loop-byte-preserved : goal.loop-byte-preserved
loop-byte-preserved c =
    rw (c.from-in-loop-byte.ensures, c.from-in-loop-byte-2.ensures)
    (Reads-next _ _ _ _ c.from.result _ (omega arith) c.from.ensures c.in_ok-digit.ensures.value.0 (sym c.in_ok-digit.ensures.value.1) c.loop-byte.invariant)

pub returns-clause-value : goal.returns-clause-value
returns-clause-value c =
    let all = Reads-all _ _ _ _ (omega arith) c.loop-byte.invariant in (all.0, sym all.1)

pub returns-clause-below : goal.returns-clause-below
returns-clause-below c =
    let all = Reads-all _ _ _ _ (omega arith) c.loop-byte.invariant in
    rw (← all.1) (digits_value-lt c.args.radix c.args.bytes.now all.0)
