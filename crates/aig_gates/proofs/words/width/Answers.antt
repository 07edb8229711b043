use Rattle.std.proofs.Common.{ℕ, ◌+◌, ◌*◌, ◌<◌, ◌≤◌, ◌^◌, subst, arith, inl, inr}
use Rattle.std.proofs.lemmas.Bool.{cases_lt}
use Rattle.std.proofs.lemmas.Nat.{leading_length}
use Rattle.std.proofs.Math.Pow.{pow_mono}
use Rattle.aig_gates.proofs.Zipped.{double-power}
use Rattle.aig_gates.proofs.words.width.Goals as goal

pub returns-clause-fits : goal.returns-clause-fits
returns-clause-fits c =
    let l = leading_length 64 c.args.number c.ranges.number.fits in
    let at = l.1 in
    subst (λ m. c.args.number < 2 ^ m) (omega (arith, at)) l.2

shorter : (a m w : ℕ) → 2 ^ m ≤ 2 * a + 1 → a < 2 ^ w → m ≤ w
shorter a m w low lt = elim (cases_lt w m) [ inl less ↦ absurd (no less) | inr le ↦ le ]
  where
    no : w < m → ⊥
    no less =
        let up : w + 1 ≤ m = omega (arith, less) in
        let larger = pow_mono up in
        let double = double-power w in
        omega (arith, larger, double, low, lt)

pub returns-clause-least : goal.returns-clause-least
returns-clause-least c w lt =
    let l = leading_length 64 c.args.number c.ranges.number.fits in
    let at = l.1 in
    subst (λ m. m ≤ w) (omega (arith, at)) (shorter c.args.number l.0 w l.3 lt)
