-- A set as a number, one place more at a time.
use Rattle.std.proofs.Common.{◌≡◌, ℕ, zero, suc, ◌+◌, ◌*◌, ◌^◌, ◌<◌, ◌≤◌, Bool, true, false, refl, sym, ap, ◌∙◌, arith, add-one}
use Rattle.std.proofs.Math.Nat.{pow-suc, pow-le-pow_right}
use Rattle.vl_model.specs.Meaning.{one_if}
use Rattle.gen_kit.specs.Masks.{mask}
use Rattle.gen_kit.proofs.Sets.{mask-lt}

pub mask_more : (set : ℕ → Bool) (n m : ℕ) → m ≡ mask n set → set n ≡ true → m + 2 ^ n ≡ mask (n + 1) set
mask_more set n m e hit = rw (add-one n) (rw hit (omega (arith, e)))

pub mask_same : (set : ℕ → Bool) (n m : ℕ) → m ≡ mask n set → set n ≡ false → m ≡ mask (n + 1) set
mask_same set n m e miss = rw (add-one n) (rw miss (omega (arith, e)))

-- what a set of the numbers below n and one more come to
pub mask_fits : (set : ℕ → Bool) (n k m : ℕ) → n < k → m ≡ mask n set → m + 2 ^ n < 2 ^ k
mask_fits set n k m below e =
    let small = mask-lt n set in
    let double = pow-suc 2 n in
    let more = pow-le-pow_right {n = 2} (omega arith) {i = suc n} {j = k} (omega arith) in
    omega (arith, e, small, double, more)
