-- Widths, and the parts of a word.
use Rattle.std.proofs.Common.{◌≡◌, ℕ, zero, suc, ◌+◌, ◌*◌, ◌^◌, ◌<◌, ◌≤◌, Bool, true, false, List, [], ◌∷◌, length, take, refl, ap, ◌∙◌, arith, max, ⊎_elim, mul_comm}
use Rattle.std.specs.Prelude.{nat_le, slice_get, if◌then◌else◌}
use Rattle.std.proofs.Math.Nat.{pow-suc, pow-le-pow_right}
use Rattle.std.proofs.lemmas.Nat.{mul-add-lt, pow-add}
use Rattle.std.proofs.lemmas.Bool.{cases_lt}
use Rattle.std.proofs.lemmas.Bool.Decides.{nat_tests}
use Rattle.noc_model.specs.declared.plan.DomainPart.{DomainPart}
use Rattle.noc_model.specs.Plan.{Plan, channels_in, link_channels, classes}
use Rattle.flit_word.specs.Words.{bits_from, bits, max_channels, max_link_channels}

if-true : (b : Bool) (x y : ℕ) → b ≡ true → (if b then x else y) ≡ x
if-true true x y e = refl
if-true false x y e = absurd (cc e)

if-false : (b : Bool) (x y : ℕ) → b ≡ false → (if b then x else y) ≡ y
if-false true x y e = absurd (cc e)
if-false false x y e = refl

last : (a b : ℕ) → a ≤ b → (a < b → ⊥) → a ≡ b
last a b low none = omega (arith, low, none)

apart : (a n b : ℕ) → a ≤ b → n ≤ 2 ^ b → 2 ^ a < n → a + 1 ≤ b
apart a n b low enough past = ⊎_elim
    (λ (less : a < b). omega (arith, less))
    (λ (more : b ≤ a). let e : a ≡ b = omega (arith, low, more) in let same = ap (λ k. 2 ^ k) e in absurd (omega (arith, same, enough, past)))
    (cases_lt a b)

-- the least b is the one that is enough, where none before it is
from-is : (fuel a n b : ℕ) → a ≤ b → b ≤ a + fuel → n ≤ 2 ^ b → ((c : ℕ) → a ≤ c → c < b → 2 ^ c < n)
    → bits_from fuel a n ≡ b
from-is zero a n b low high enough before = omega (arith, low, high)
from-is (suc fuel) a n b low high enough before = ⊎_elim
    (λ (past : 2 ^ a < n).
    let t : nat_le n (2 ^ a) ≡ false = grind (arith, nat_tests) in
    if-false (nat_le n (2 ^ a)) a (bits_from fuel (a + 1) n) t
    ∙ from-is fuel (a + 1) n b (apart a n b low enough past) (omega (arith, high)) enough (λ c from less. before c (omega (arith, from)) less))
    (λ (here : n ≤ 2 ^ a).
    let t : nat_le n (2 ^ a) ≡ true = grind (arith, nat_tests) in
    if-true (nat_le n (2 ^ a)) a (bits_from fuel (a + 1) n) t ∙ last a b low (λ less. let past = before a (omega arith) less in omega (arith, past, here)))
    (cases_lt (2 ^ a) n)

grows : (k : ℕ) → k < 2 ^ k
grows zero = omega arith
grows (suc k) = let e = pow-suc 2 k in let before = grows k in omega (arith, e, before)

pub bits-is : (n b : ℕ) → 1 ≤ b → n ≤ 2 ^ b → ((c : ℕ) → 1 ≤ c → c < b → 2 ^ c < n) → bits n ≡ b
unfolding bits
bits-is n b some enough before = from-is n 1 n b some (high b some before) enough before
  where
    high : (b : ℕ) → 1 ≤ b → ((c : ℕ) → 1 ≤ c → c < b → 2 ^ c < n) → b ≤ 1 + n
    high zero some before = omega arith
    high (suc zero) some before = omega arith
    high (suc (suc k)) some before =
        let past = before (suc k) (omega arith) (omega arith) in
        let g = grows (suc k) in
        omega (arith, past, g)

-- ---- the most channels

pub most-take : (k : ℕ) (xs : List DomainPart) (d : ℕ) → d < length xs
    → max_channels k (take (d + 1) xs) ≡ max (max_channels k (take d xs)) (k * channels_in (slice_get xs d))
most-take k xs d there = ap (λ n. max_channels k (take n xs)) (let e : d + 1 ≡ suc d = omega arith in e) ∙ go xs d there
  where
    go : (xs : List DomainPart) (d : ℕ) → d < length xs
        → max_channels k (take (suc d) xs) ≡ max (max_channels k (take d xs)) (k * channels_in (slice_get xs d))
    go [] d there = absurd (omega (arith, there))
    go (x ∷ xs) zero there = omega arith
    go (x ∷ xs) (suc d) there = let rest = go xs d (omega (arith, there)) in omega (arith, rest)

pub most-one : (k : ℕ) (xs : List DomainPart) (d : ℕ) → k * channels_in (slice_get xs d) ≤ max_channels k xs
most-one k [] d = omega arith
most-one k (x ∷ xs) zero = omega arith
most-one k (x ∷ xs) (suc d) = let rest = most-one k xs d in omega (arith, rest)

-- a domain's channels are no more than the most
pub link_channels-most : (p : Plan) (d : ℕ) → link_channels p d ≤ max_link_channels p
link_channels-most p d = most-one (classes p) p.domains d

-- ---- the parts of a word

pub above-few : (k low_bits high low : ℕ) → high < 2 ^ k → low < 2 ^ low_bits
    → high * 2 ^ low_bits + low < 2 ^ (k + low_bits)
above-few k low_bits high low h l =
    let a = mul-add-lt high (2 ^ low_bits) low (2 ^ k) h l in
    let e = pow-add 2 k low_bits in
    let c = mul_comm (2 ^ low_bits) (2 ^ k) in
    omega (arith, a, e, c)

pub above-fits : (low_bits high low : ℕ) → high < 2 ^ 10 → low_bits ≤ 42 → low < 2 ^ low_bits
    → high * 2 ^ low_bits + low < 2 ^ 52
above-fits low_bits high low h few l =
    let a = above-few 10 low_bits high low h l in
    let b = pow-le-pow_right {n = 2} (omega arith) {i = 10 + low_bits} {j = 52} (omega (arith, few)) in
    omega (arith, a, b)

pub least-is : (n b : ℕ) → ((c : ℕ) → 1 ≤ c → c < b → 2 ^ c < n) → (c : ℕ) → 1 ≤ c → n ≤ 2 ^ c → b ≤ c
least-is n b before c some enough = ⊎_elim (λ (less : c < b). let past = before c some less in absurd (omega (arith, past, enough))) (λ (more : b ≤ c). more) (cases_lt c b)

pub most-all : (k : ℕ) (xs : List DomainPart) (d : ℕ) → length xs ≤ d → max_channels k (take d xs) ≡ max_channels k xs
most-all k [] zero past = refl
most-all k [] (suc d) past = refl
most-all k (x ∷ xs) zero past = absurd (omega (arith, past))
most-all k (x ∷ xs) (suc d) past = ap (max (k * x.channels)) (most-all k xs d (omega (arith, past)))
