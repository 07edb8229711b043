-- Families of items and of expressions, by number.
use Rattle.std.proofs.Common.{◌≡◌, ◌≢◌, ℕ, zero, suc, ◌<◌, ◌≤◌, ◌⊎◌, inl, inr, Bool, true, false, List, refl, sym, ap, arith, subst, ◌||◌}
use Rattle.std.specs.List.{AllByRecursion}
use Rattle.vl_tree.specs.Values.{Expr, Item}
use Rattle.vl_model.specs.Meaning.{Widths, Values, value_of, values_of, width_of, widths_of, one_if}
use Rattle.gen_kit.proofs.Parts.{held-front, held-back}
use Rattle.gen_kit.specs.Masks.{mask}
use Rattle.gen_kit.specs.Families.{for_each, any_upto, or_upto}
use Rattle.std.specs.Prelude.{◌+◌, ◌*◌, bit_or}
use Rattle.gen_kit.specs.Families.{row_parts}
use Rattle.gen_kit.proofs.Sets.{mask-or, mask-same, mask-cat}

pub each-held : (P : Item → Type 0) (n : ℕ) (f : ℕ → List Item) → AllByRecursion P (for_each n f) → (k : ℕ) → k < n
    → AllByRecursion P (f k)
each-held P zero f h k below = absurd (omega arith)
each-held P (suc n) f h k below = go (λ g. each-held P n f (held-front P (for_each n f) (f n) h) k g) order
  where
    order : (k < n) ⊎ (k ≡ n)
    order = grind arith

    go : (k < n → AllByRecursion P (f k)) → (k < n) ⊎ (k ≡ n) → AllByRecursion P (f k)
    go before (inl less) = before less
    go before (inr e) = subst (λ j. AllByRecursion P (f j)) (sym e) (held-back P (for_each n f) (f n) h)

pub or-shown : (w : Widths) (v : Values) (h : ℕ) (f : ℕ → Expr) (sets : ℕ → ℕ → Bool) (n : ℕ)
    → ((k : ℕ) → k ≤ n → value_of w v (f k) ≡ mask h (sets k))
    → value_of w v (or_upto n f) ≡ mask h (λ i. any_upto n (λ k. sets k i))
or-shown w v h f sets zero e = e zero (omega arith)
or-shown w v h f sets (suc n) e =
    rw (or-shown w v h f sets n (λ k le. e k (omega arith)), e (suc n) (omega arith)) (mask-or h (λ i. any_upto n (λ k. sets k i)) (sets (suc n)))

pub any-none : (n : ℕ) (f : ℕ → Bool) → ((k : ℕ) → k ≤ n → f k ≡ false) → any_upto n f ≡ false
any-none zero f none = none zero (omega arith)
any-none (suc n) f none = rw (any-none n f (λ k le. none k (omega arith)), none (suc n) (omega arith)) refl

or-false : (b : Bool) → (b || false) ≡ b
or-false true = refl
or-false false = refl

pub any-lone : (n c : ℕ) (f : ℕ → Bool) → c ≤ n → ((k : ℕ) → k ≢ c → f k ≡ false) → any_upto n f ≡ f c
any-lone zero c f le lone = let e : zero ≡ c = omega arith in ap f e
any-lone (suc n) c f le lone = go (λ h. any-lone n c f h lone) order
  where
    order : (c ≤ n) ⊎ (suc n ≡ c)
    order = grind arith

    go : (c ≤ n → any_upto n f ≡ f c) → (c ≤ n) ⊎ (suc n ≡ c) → (any_upto n f || f (suc n)) ≡ f c
    go before (inl h) = rw (before h, lone (suc n) (λ e. omega arith)) (or-false (f c))
    go before (inr e) = rw (any-none n f (λ k h. lone k (λ same. omega arith))) (ap f e)

-- ---- rows of parts

pub rows-wide : (c : ℕ) (w : Widths) (f : ℕ → Expr) (n : ℕ) → ((k : ℕ) → k ≤ n → width_of w (f k) ≡ c)
    → widths_of w (row_parts f n) ≡ (n + 1) * c
rows-wide c w f zero each = rw (each zero (omega arith)) (omega arith)
rows-wide c w f (suc n) each =
    rw (each (suc n) (omega arith), rows-wide c w f n (λ k le. each k (omega arith))) (grind arith)

pub rows-shown : (c : ℕ) (w : Widths) (v : Values) (f : ℕ → Expr) (set : ℕ → Bool) (n : ℕ)
    → ((k : ℕ) → k ≤ n → width_of w (f k) ≡ c)
    → ((k : ℕ) → k ≤ n → value_of w v (f k) ≡ mask c (λ j. set (k * c + j)))
    → values_of w v (row_parts f n) ≡ mask ((n + 1) * c) set
rows-shown c w v f set zero wide each =
    let one : (0 + 1) * c ≡ c = omega arith in
    rw one (omega (arith, each zero (omega arith), mask-same c (λ j. set (0 * c + j)) set (λ j b. (let e : 0 * c + j ≡ j = omega arith in ap set e))))
rows-shown c w v f set (suc n) wide each =
    let sum : (suc n + 1) * c ≡ (n + 1) * c + c = grind arith in
    let start : suc n * c ≡ (n + 1) * c = grind arith in
    rw (rows-wide c w f n (λ k le. wide k (omega arith)), rows-shown c w v f set n (λ k le. wide k (omega arith)) (λ k le. each k (omega arith)), each (suc n) (omega arith), sum, start)
    (sym (mask-cat c ((n + 1) * c) set))

pub bit-or : (a b : Bool) → bit_or (one_if a) (one_if b) ≡ one_if (a || b)
bit-or true true = refl
bit-or true false = refl
bit-or false true = refl
bit-or false false = refl

pub or-bits : (w : Widths) (v : Values) (f : ℕ → Expr) (set : ℕ → Bool) (n : ℕ)
    → ((k : ℕ) → k ≤ n → value_of w v (f k) ≡ one_if (set k)) → value_of w v (or_upto n f) ≡ one_if (any_upto n set)
or-bits w v f set zero e = e zero (omega arith)
or-bits w v f set (suc n) e =
    rw (or-bits w v f set n (λ k le. e k (omega arith)), e (suc n) (omega arith)) (bit-or (any_upto n set) (set (suc n)))
