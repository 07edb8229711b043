use Rattle.std.proofs.Common.{◌≤◌, ap, arith, length}
use Rattle.std.proofs.lemmas.Fmt.{length-decimal-le}
use Rattle.desc_check.proofs.line.put_head.Goals as goal

pub returns-in-Some-clause-few : goal.returns-in-Some-clause-few
returns-in-Some-clause-few c =
    let few : c.in-Some.number ≤ 25 = rw c.in-Some.is at c.requires.number in
    let short = length-decimal-le 2 c.in-Some.number (omega arith) (omega arith) (omega arith) in
    omega (arith, short, ap length c.as_slice-in-Some.ensures)
