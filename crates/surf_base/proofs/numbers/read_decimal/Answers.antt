use Rattle.surf_base.proofs.Numerals.{decimal_in-is}
use Rattle.surf_base.proofs.numbers.read_decimal.Goals as goal

pub returns-clause-computed : goal.returns-clause-computed
returns-clause-computed c =
    decimal_in-is c.decimal_at_most.result c.args.most c.args.bytes.now c.decimal_at_most.ensures
