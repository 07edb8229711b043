use Rattle.surf_base.proofs.Numerals.{hex_in-is}
use Rattle.surf_base.proofs.numbers.read_hex.Goals as goal

pub returns-clause-computed : goal.returns-clause-computed
returns-clause-computed c = hex_in-is c.short_hex.result c.args.bytes.now c.short_hex.ensures
