use Rattle.std.proofs.Common.{arith}
use Rattle.std.proofs.lemmas.Fmt.{length-decimal-le, decimal_nonempty}
use Rattle.surf_base.proofs.numbers.decimal.Goals as goal

pub put_decimal-requires : goal.put_decimal-requires
put_decimal-requires c =
    omega (arith, c.told-buf, length-decimal-le 20 c.args.value (omega arith) (omega arith) (omega arith))

pub returns-clause-some : goal.returns-clause-some
returns-clause-some c = omega (arith, decimal_nonempty c.args.value (omega arith))
