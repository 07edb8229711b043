use Rattle.std.proofs.Common.{arith, ◌^◌, ◌<◌, ◌≤◌, length}
use Rattle.std.proofs.Math.Nat.{pow-le-pow_right}
use Rattle.surf_base.proofs.numbers.short_hex.Goals as goal

pub overflow_cast-result : goal.overflow_cast-result
overflow_cast-result c =
    let longest : 16 ^ length c.args.bytes.now ≤ 16 ^ 8 =
    let some : 0 < 16 = omega arith in
    let short : length c.args.bytes.now ≤ 8 = omega arith in
    pow-le-pow_right some short in
    omega (arith, longest, c.in_ok-value.ensures.below)
