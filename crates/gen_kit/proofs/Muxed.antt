-- A word is taken out of many by bits of which at most one is 1; and a number by its digits in a table.
use Rattle.std.proofs.Common.{◌≡◌, ◌≢◌, ℕ, zero, suc, ◌+◌, ◌*◌, ◌/◌, ◌%◌, ◌<◌, ◌≤◌, ◌^◌, ◌⊎◌, inl, inr, true, false, Option, refl, sym, ◌∙◌, ap, arith, ◌==◌, Bool}
use Rattle.std.specs.Prelude.{Some, None, if◌then◌else◌}
use Rattle.std.specs.Int.Bits.{or_zero_r}
use Rattle.std.proofs.Math.Nat.{mod-lt, pow-suc}
use Rattle.std.proofs.lemmas.Nat.{shr-shr, div-add-mod'}
use Rattle.std.proofs.lemmas.Bool.Decides.{nat_tests}
use Rattle.vl_tree.specs.Values.{Name, Expr, net, number, bit, part, word, not, two, choose, cat}
use Rattle.vl_model.specs.Meaning.{Widths, Values, value_of, one_if, chosen}
use Rattle.noc_model.specs.Step.{is_place}
use Rattle.gen_kit.specs.Families.{or_upto}
use Rattle.gen_kit.specs.Mux.{gated_words, branch, constant_of, are_same, merged, table}

-- ---- one word

pub mux-none : (w : Widths) (v : Values) (width : ℕ) (b f : ℕ → Expr) (n : ℕ)
    → ((k : ℕ) → k ≤ n → value_of w v (b k) ≡ 0) → value_of w v (or_upto n (gated_words width b f)) ≡ 0
mux-none w v width b f zero off = rw (off zero (omega arith)) refl
mux-none w v width b f (suc n) off =
    rw (mux-none w v width b f n (λ k le. off k (omega arith)), off (suc n) (omega arith)) refl

pub mux-one : (w : Widths) (v : Values) (width : ℕ) (b f : ℕ → Expr) (n j : ℕ) → j ≤ n → value_of w v (b j) ≡ 1
    → ((k : ℕ) → k ≤ n → k ≢ j → value_of w v (b k) ≡ 0)
    → value_of w v (or_upto n (gated_words width b f)) ≡ value_of w v (f j)
mux-one w v width b f zero j le on off =
    let at : j ≡ zero = omega arith in
    let here : value_of w v (b zero) ≡ 1 = ap (λ k. value_of w v (b k)) (sym at) ∙ on in
    rw here (ap (λ k. value_of w v (f k)) (sym at))
mux-one w v width b f (suc n) j le on off = go (λ h. mux-one w v width b f n j h on (λ k b. off k (omega arith))) order
  where
    order : (j ≤ n) ⊎ (j ≡ suc n)
    order = grind arith

    go : (j ≤ n → value_of w v (or_upto n (gated_words width b f)) ≡ value_of w v (f j)) → (j ≤ n) ⊎ (j ≡ suc n)
        → value_of w v (or_upto (suc n) (gated_words width b f)) ≡ value_of w v (f j)
    go before (inl h) = rw (before h, off (suc n) (omega arith) (λ e. omega arith)) (or_zero_r (value_of w v (f j)))
    go before (inr e) =
        let here : value_of w v (b (suc n)) ≡ 1 = ap (λ k. value_of w v (b k)) (sym e) ∙ on in
        let none : value_of w v (or_upto n (gated_words width b f)) ≡ 0 =
        mux-none w v width b f n (λ k le. off k (omega arith) (λ same. omega arith)) in
        rw (none, here) (ap (λ k. value_of w v (f k)) (sym e))

-- by the bits of an option: the word of its number, or 0
pub mux-shown : (w : Widths) (v : Values) (width : ℕ) (b f : ℕ → Expr) (n : ℕ) (x : Option ℕ)
    → ((j : ℕ) → x ≡ Some j → j ≤ n) → ((k : ℕ) → k ≤ n → value_of w v (b k) ≡ one_if (is_place x k))
    → ((j : ℕ) → x ≡ Some j → value_of w v (or_upto n (gated_words width b f)) ≡ value_of w v (f j)) × (x ≡ None → value_of w v (or_upto n (gated_words width b f)) ≡ 0)
mux-shown w v width b f n x few bits = (
  λ j e. (
      let self : (j == j) ≡ true = grind (arith, nat_tests) in
      mux-one w v width b f n j (few j e) (bits j (few j e) ∙ ap (λ o. one_if (is_place o j)) e ∙ ap one_if self)
      (λ k le other. bits k le ∙ ap (λ o. one_if (is_place o k)) e ∙ (let differ : (j == k) ≡ false = grind (arith, nat_tests) in ap one_if differ))
      ),
  λ e. mux-none w v width b f n (λ k le. bits k le ∙ ap (λ o. one_if (is_place o k)) e),
)

-- ---- a table by the bits of a number, the least bit first

constant-value : (w : Widths) (v : Values) (e : Expr) (x : ℕ) → constant_of e ≡ Some x → value_of w v e ≡ x
constant-value w v (net n) x e = absurd (cc e)
constant-value w v (number k) x e = cc e
constant-value w v (bit n i) x e = absurd (cc e)
constant-value w v (part n h l) x e = absurd (cc e)
constant-value w v (word n i) x e = absurd (cc e)
constant-value w v (not a) x e = absurd (cc e)
constant-value w v (two op a b) x e = absurd (cc e)
constant-value w v (choose c a b) x e = absurd (cc e)
constant-value w v (cat es) x e = absurd (cc e)

either-same : (c x y : ℕ) → x ≡ y → chosen c x y ≡ y
either-same zero x y e = refl
either-same (suc c) x y e = e

-- merging changes no value
merged-shown : (w : Widths) (v : Values) (n : Name) (i : ℕ) (a b : Expr)
    → value_of w v (merged n i a b) ≡ chosen (v.net n / 2 ^ i % 2) (value_of w v a) (value_of w v b)
merged-shown w v n i a b = go (constant_of a) refl (constant_of b) refl
  where
    plain : (t : Bool) → (t ≡ true → value_of w v a ≡ value_of w v b)
        → value_of w v (if t then b else branch n i a b) ≡ chosen (v.net n / 2 ^ i % 2) (value_of w v a) (value_of w v b)
    plain true same = sym (either-same (v.net n / 2 ^ i % 2) (value_of w v a) (value_of w v b) (same refl))
    plain false same = refl

    go : (x : Option ℕ) → constant_of a ≡ x → (y : Option ℕ) → constant_of b ≡ y
        → value_of w v (if are_same x y then b else branch n i a b) ≡ chosen (v.net n / 2 ^ i % 2) (value_of w v a) (value_of w v b)
    go None e y f = refl
    go (Some x) e None f = refl
    go (Some x) e (Some y) f =
        plain (x == y) (λ t. constant-value w v a x e ∙ (let same : x ≡ y = grind (arith, nat_tests, t) in same) ∙ sym (constant-value w v b y f))

pub table-shown : (w : Widths) (v : Values) (n : Name) (width : ℕ) (f : ℕ → ℕ) (i k : ℕ) → v.net n / 2 ^ i < 2 ^ k
    → value_of w v (table n width f i k) ≡ f (v.net n / 2 ^ i)
table-shown w v n width f i zero below =
    let none : v.net n / 2 ^ i ≡ 0 = omega arith in
    ap f (sym none)
table-shown w v n width f i (suc k) below = go (v.net n / 2 ^ i % 2) refl
    (table-shown w v n width (λ x. f (2 * x + 1)) (i + 1) k upper) (table-shown w v n width (λ x. f (2 * x)) (i + 1) k upper)
  where
    half : v.net n / 2 ^ (i + 1) ≡ v.net n / 2 ^ i / 2
    half = sym (shr-shr (v.net n) i 1)

    upper : v.net n / 2 ^ (i + 1) < 2 ^ k
    upper =
        let double : 2 ^ suc k ≡ 2 ^ k + 2 ^ k = pow-suc 2 k ∙ omega arith in
        let parts : v.net n / 2 ^ i / 2 * 2 + v.net n / 2 ^ i % 2 ≡ v.net n / 2 ^ i =
        div-add-mod' (v.net n / 2 ^ i) 2 in
        omega (arith, half)

    go : (r : ℕ) → v.net n / 2 ^ i % 2 ≡ r
        → value_of w v (table n width (λ x. f (2 * x + 1)) (i + 1) k) ≡ f (2 * (v.net n / 2 ^ (i + 1)) + 1)
        → value_of w v (table n width (λ x. f (2 * x)) (i + 1) k) ≡ f (2 * (v.net n / 2 ^ (i + 1)))
        → value_of w v (table n width f i (suc k)) ≡ f (v.net n / 2 ^ i)
    go zero e odd even =
        let parts : v.net n / 2 ^ i / 2 * 2 + v.net n / 2 ^ i % 2 ≡ v.net n / 2 ^ i =
        div-add-mod' (v.net n / 2 ^ i) 2 in
        let whole : 2 * (v.net n / 2 ^ (i + 1)) ≡ v.net n / 2 ^ i = omega (arith, half) in
        merged-shown w v n i (table n width (λ x. f (2 * x + 1)) (i + 1) k) (table n width (λ x. f (2 * x)) (i + 1) k)
        ∙ rw e (even ∙ ap f whole)
    go (suc zero) e odd even =
        let parts : v.net n / 2 ^ i / 2 * 2 + v.net n / 2 ^ i % 2 ≡ v.net n / 2 ^ i =
        div-add-mod' (v.net n / 2 ^ i) 2 in
        let whole : 2 * (v.net n / 2 ^ (i + 1)) + 1 ≡ v.net n / 2 ^ i = omega (arith, half) in
        merged-shown w v n i (table n width (λ x. f (2 * x + 1)) (i + 1) k) (table n width (λ x. f (2 * x)) (i + 1) k)
        ∙ rw e (odd ∙ ap f whole)
    go (suc (suc r)) e odd even =
        absurd (let small : v.net n / 2 ^ i % 2 < 2 = mod-lt (v.net n / 2 ^ i) (omega arith) in omega arith)
