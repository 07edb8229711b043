-- Numbers whose bits are known.
use Rattle.std.proofs.Common.{◌≡◌, ℕ, zero, suc, ◌+◌, ◌*◌, ◌<◌, ◌≤◌, ◌^◌, Bool, true, false, Option, refl, sym, ◌∙◌, ap, subst, arith}
use Rattle.std.specs.Prelude.{Some, None, ◌==◌, nat_le, length, List, if◌then◌else◌}
use Rattle.std.proofs.lemmas.Bool.{eqb-true, eqb-false}
use Rattle.std.proofs.lemmas.Nat.{pow-add}
use Rattle.label_model.specs.Labels.{Label, known, from, with_bit, number_of}
use Rattle.label_audit.specs.Rows.{bit_in, row_number}

-- a bit that is not known
pub stays-none : (w : ℕ) (x : Label) → with_bit w x None ≡ None
stays-none w (known b) = refl
stays-none w (from S) = refl

-- where fewer bits are not all known, more are not
pub none-up : (x : ℕ → Label) (k n : ℕ) → number_of x k ≡ None → k ≤ n → number_of x n ≡ None
none-up x k zero h le = let same : k ≡ 0 = omega (arith, le) in subst (λ z. number_of x z ≡ None) same h
none-up x k (suc n) h le = go (k == suc n) refl (none-up x k n h)
  where
    go : (b : Bool) → (k == suc n) ≡ b → (k ≤ n → number_of x n ≡ None) → number_of x (suc n) ≡ None
    go true is rest = subst (λ z. number_of x z ≡ None) (eqb-true k (suc n) is) h
    go false is rest = ap (with_bit n (x n)) (rest (grind (arith, le, eqb-false k (suc n) is))) ∙ stays-none n (x n)

-- no number
pub no-number : (xs : List Label) (k : ℕ) → number_of (bit_in xs) k ≡ None → k ≤ length xs → row_number xs ≡ None
no-number xs k h le = go (nat_le (length xs) 64)
  where
    go : (b : Bool) → (if b then number_of (bit_in xs) (length xs) else None) ≡ None
    go true = none-up (bit_in xs) k (length xs) h le
    go false = refl

-- one more power of two
pub double : (i : ℕ) → 2 ^ (i + 1) ≡ 2 ^ i + 2 ^ i
double i = let parts = pow-add 2 i 1 in omega (arith, parts)

pub ruleset numbers = (stays-none, double)
