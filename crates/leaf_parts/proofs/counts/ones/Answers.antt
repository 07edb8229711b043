use Rattle.std.proofs.Common.{◌≡◌, ◌+◌, ◌-◌, ap, ◌∙◌, arith}
use Rattle.std.specs.Prelude.{◌^◌}
use Rattle.std.proofs.lemmas.Nat.Bits.{ones_shr}
use Rattle.leaf_parts.proofs.counts.ones.Goals as goal

pub returns : goal.returns
returns c =
    let left : 64 - (63 - c.args.high) ≡ c.args.high + 1 = omega (arith, c.requires.high) in
    ones_shr 64 (63 - c.args.high) (omega arith) ∙ ap (λ k. 2 ^ k - 1) left
