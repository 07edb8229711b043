use Rattle.std.proofs.Common.{◌≡◌, ◌+◌, ◌<◌, ◌%◌, length, arith, ap, ◌∙◌, sym, refl}
use Rattle.std.proofs.lemmas.Fmt.{decimal_digit, decimal_step}
use Rattle.surf_base.proofs.NumbersLemmas.{length-decimal_step, put_last}
use Rattle.surf_base.proofs.numbers.+put_decimal.Goals as goal

pub bounds-buf-0 : goal.bounds-buf-0
bounds-buf-0 t c = omega (arith, c.requires, ap length (decimal_digit c.args.value (omega arith)))

pub returns-then-value-lt10-clause-written : goal.returns-then-value-lt10-clause-written
returns-then-value-lt10-clause-written t c =
    let one = decimal_digit c.args.value (omega arith) in
    let room : 0 < length c.args.buf.now = omega (arith, c.requires, ap length one) in
    let same : 48 + c.args.value % 10 ≡ 48 + c.args.value = omega arith in
    rw (same, one) (put_last c.args.buf.now _ 0 _ room refl)

pub returns-then-value-lt10-clause-count : goal.returns-then-value-lt10-clause-count
returns-then-value-lt10-clause-count t c = sym (ap length (decimal_digit c.args.value (omega arith)))

pub put_decimal-count-requires : goal.put_decimal-count-requires
put_decimal-count-requires t c =
    let longer = length-decimal_step c.args.value c.if-value-lt10.false (omega arith) in
    (omega (arith, c.decreases), omega (arith, longer))

pub bounds-buf-count : goal.bounds-buf-count
bounds-buf-count t c =
    let longer = length-decimal_step c.args.value c.if-value-lt10.false (omega arith) in
    omega (arith, longer)

pub returns-clause-written : goal.returns-clause-written
returns-clause-written t c =
    let longer = length-decimal_step c.args.value c.if-value-lt10.false (omega arith) in
    put_last c.put_decimal-count.new.buf _ _ _ (omega (arith, longer)) c.put_decimal-count.ensures.written
    ∙ sym (decimal_step c.args.value c.if-value-lt10.false (omega arith))

pub returns-clause-count : goal.returns-clause-count
returns-clause-count t c =
    let longer = length-decimal_step c.args.value c.if-value-lt10.false (omega arith) in
    omega (arith, longer)
