-- Sets of domains by the bits of numbers.
use Rattle.std.proofs.Common.{◌≡◌, ℕ, zero, suc, ◌+◌, ◌*◌, ◌%◌, ◌^◌, ◌<◌, ◌≤◌, Bool, true, false, ◌&&◌, max, refl, sym, ◌∙◌, ap, arith}
use Rattle.std.specs.Prelude.{◌==◌, ◌||◌, nat_lt, bit_or}
use Rattle.std.specs.Int.{bit_at}
use Rattle.std.proofs.Math.Nat.{mod-eq_of_lt}
use Rattle.std.proofs.Math.Pow.{pow_mono}
use Rattle.std.proofs.lemmas.Bool.{eqb-true, eqb-false, lt-ltb}
use Rattle.std.proofs.lemmas.Nat.Bits.{bit_at_or, bit_at-zero, bit_at-lt, bit_at-pow_same, bit_at-pow_other}
use Rattle.label_model.specs.Labels.{Domains, none, only, either, Label, from, sources, mixed}
use Rattle.label_audit.specs.Bits.{domains_in}

same-sets : (S T : Domains) → ((e : ℕ) → S e ≡ T e) → S ≡ T
same-sets S T h = λ k e. h e k

none-of : (b : Bool) → (b && false) ≡ false
none-of true = refl
none-of false = refl

-- no bit is 1
pub none-in : domains_in 0 ≡ none
none-in = same-sets (domains_in 0) none (λ e. ap (λ x. nat_lt e 16 && (x == 1)) (bit_at-zero e) ∙ none-of (nat_lt e 16))

more : (x y : ℕ) → x < 2 → y < 2 → (max x y == 1) ≡ ((x == 1) || (y == 1))
more zero zero a b = refl
more zero (suc zero) a b = refl
more (suc zero) zero a b = refl
more (suc zero) (suc zero) a b = refl
more (suc (suc x)) y a b = absurd (omega (arith, a))
more zero (suc (suc y)) a b = absurd (omega (arith, b))
more (suc zero) (suc (suc y)) a b = absurd (omega (arith, b))

spread : (b x y : Bool) → (b && (x || y)) ≡ ((b && x) || (b && y))
spread true x y = refl
spread false x y = refl

-- the bits of both
pub either-in : (m n : ℕ) → domains_in (bit_or m n) ≡ either (domains_in m) (domains_in n)
either-in m n =
    same-sets (domains_in (bit_or m n)) (either (domains_in m) (domains_in n)) (λ e.
    ap (λ x. nat_lt e 16 && (x == 1)) (bit_at_or m n e) ∙ ap (λ b. nat_lt e 16 && b) (more (bit_at m e) (bit_at n e) (bit_at-lt m e) (bit_at-lt n e)) ∙ spread (nat_lt e 16) (bit_at m e == 1) (bit_at n e == 1))

-- a bit that may depend on both
pub mixed-in : (m n : ℕ) (x y : Label) → domains_in m ≡ sources x → domains_in n ≡ sources y → from (domains_in (bit_or m n)) ≡ mixed x y
mixed-in m n x y a b = ap from (either-in m n ∙ ap (λ S. either S (domains_in n)) a ∙ ap (either (sources x)) b)

-- the bit of one domain
pub only-in : (d : ℕ) → d < 16 → domains_in (1 * 2 ^ d % 65536) ≡ only d
only-in d lt = ap domains_in small ∙ same-sets (domains_in (2 ^ d)) (only d) (λ e. go e (e == d) refl)
  where
    low : 2 ^ d ≤ 2 ^ 15
    low = pow_mono {j = 15} (omega (arith, lt))

    small : 1 * 2 ^ d % 65536 ≡ 2 ^ d
    small = let one : 1 * 2 ^ d ≡ 2 ^ d = omega arith in ap (λ z. z % 65536) one ∙ mod-eq_of_lt (omega (arith, low))

    go : (e : ℕ) (b : Bool) → (e == d) ≡ b → (nat_lt e 16 && (bit_at (2 ^ d) e == 1)) ≡ (e == d)
    go e true same =
        let one : e ≡ d = eqb-true e d same in
        let within : e < 16 = omega (arith, one, lt) in
        ap (λ z. nat_lt e 16 && (bit_at (2 ^ d) z == 1)) one ∙ ap (λ x. nat_lt e 16 && (x == 1)) (bit_at-pow_same d) ∙ ap (λ b. b && true) (lt-ltb e 16 within) ∙ sym same
    go e false other = ap (λ x. nat_lt e 16 && (x == 1)) (bit_at-pow_other d e (eqb-false e d other)) ∙ none-of (nat_lt e 16) ∙ sym other

pub ruleset bits = (none-in, either-in)
