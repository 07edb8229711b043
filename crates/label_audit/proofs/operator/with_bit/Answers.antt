use Rattle.std.proofs.Common.{◌≡◌, ◌+◌, ◌*◌, ◌<◌, ◌≤◌, ◌^◌, arith}
use Rattle.std.proofs.Math.Nat.{mod-le}
use Rattle.label_audit.proofs.Numbers.{double}
use Rattle.label_audit.proofs.operator.with_bit.Goals as goal

pub returns-in-Known-true-clause-small : goal.returns-in-Known-true-clause-small
returns-in-Known-true-clause-small c =
    let low = mod-le (1 * 2 ^ c.args.i) (2 ^ 64) in let twice = double c.args.i in let small = c.requires.small in omega (arith, low, twice, small)

pub returns-in-Known-false-clause-small : goal.returns-in-Known-false-clause-small
returns-in-Known-false-clause-small c = let twice = double c.args.i in let small = c.requires.small in omega (arith, twice, small)
