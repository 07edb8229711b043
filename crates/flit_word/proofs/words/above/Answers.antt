use Rattle.std.proofs.Common.{◌*◌, arith, ap}
use Rattle.flit_word.proofs.Bits.{above-few, above-fits}
use Rattle.flit_word.proofs.words.above.Goals as goal

pub overflow_mul-result : goal.overflow_mul-result
overflow_mul-result c =
    let fits = above-fits c.args.low_bits c.args.high c.args.low c.requires.high c.requires.bits c.requires.low in
    let e = ap (λ k. c.args.high * k) c.pow.ensures in
    omega (arith, fits, e)

pub overflow_add-result : goal.overflow_add-result
overflow_add-result c =
    let fits = above-fits c.args.low_bits c.args.high c.args.low c.requires.high c.requires.bits c.requires.low in
    let e = ap (λ k. c.args.high * k) c.pow.ensures in
    omega (arith, fits, e)

pub returns-clause-few : goal.returns-clause-few
returns-clause-few c = λ k h.
    let a = above-few k c.args.low_bits c.args.high c.args.low h c.requires.low in
    let e = ap (λ n. c.args.high * n) c.pow.ensures in
    omega (arith, a, e)
