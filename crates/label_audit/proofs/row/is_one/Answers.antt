use Rattle.std.proofs.Common.{◌≡◌, ◌<◌, ◌≤◌, ◌^◌, sym, ◌∙◌, ap, arith}
use Rattle.std.specs.Prelude.{◌==◌}
use Rattle.std.proofs.lemmas.Bool.{le-ltb}
use Rattle.std.proofs.lemmas.Nat.Bits.{bit_at_above}
use Rattle.label_audit.proofs.row.is_one.Goals as goal

pub returns-else-i-lt64 : goal.returns-else-i-lt64
returns-else-i-lt64 c =
    let low : c.args.value < 2 ^ 64 = omega (arith, c.ranges.value.fits) in
    le-ltb c.args.i 64 c.if-i-lt64.false ∙ sym (ap (λ x. x == 1) (bit_at_above c.args.value 64 c.args.i low c.if-i-lt64.false))
