-- What actions compute, on words.
use Rattle.std.proofs.Common.{◌≡◌, ℕ, zero, suc, ◌+◌, ◌-◌, ◌*◌, ◌/◌, ◌%◌, ◌<◌, ◌≤◌, ◌^◌, Bool, true, false, List, [], ◌∷◌, length, get_or, refl, sym, ◌∙◌, ap, subst, arith, inl, inr}
use Rattle.std.specs.Prelude.{not, ◌==◌, bit_and, if◌then◌else◌, Result, Ok, Err, IfOk}
use Rattle.std.proofs.lemmas.Bool.{cases_lt, cases_eq, ne_eqb}
use Rattle.std.proofs.lemmas.Nat.{pow_pos, pow-add, mod-pow-add, and_mask}
use Rattle.std.proofs.lemmas.Nat.Bits.{bit_at-pow_other}
use Rattle.std.specs.Int.{bit_at}
use Rattle.std.proofs.Math.Pow.{pow_mono}
use Rattle.std.proofs.Math.Nat.{mul_comm, mul-le-mul_left, mod-lt, mod-eq_of_lt, mod-mod, mod_self, mod-add-mod, div-add-mod, add-mul-mod_self_right, mul-add-mod_self_right}
use Rattle.aig_model.specs.Form.{one_if_true, word}
use Rattle.aig_model.specs.Netlist.{Net, Means, MeansWord}
use Rattle.aig_model.proofs.Netlists.{word-small}
use Rattle.vl_model.specs.Meaning.{one_if, chosen}
use Rattle.aig_gates.specs.Memory as memory
use Rattle.aig_gates.specs.Zips.{AreBelow}
use Rattle.aig_gates.proofs.Zipped.{bound-some}
use Rattle.aig_cycle.specs.Wires.{numbers, rows, IsWord, AreWords, AreRows, IsMask}

-- ---- masks and scales

-- a mask is that of its own width
pub mask-width : (mask r : ℕ) → IsMask mask → mask < 2 ^ r → ((w : ℕ) → mask < 2 ^ w → r ≤ w) → (mask ≡ 2 ^ r - 1) × (r ≤ 64)
mask-width mask r m fits least =
    let some = pow_pos m.width in
    let is = m.is in
    let low : r ≤ m.width = least m.width (omega (arith, is, some)) in
    let high : m.width ≤ r = elim (cases_lt r m.width) [ inl less ↦ absurd (no less) | inr le ↦ le ] in
    let same : m.width ≡ r = omega (arith, low, high) in
    (is ∙ ap (λ k. 2 ^ k - 1) same, (let n = m.narrow in omega (arith, low, n)))
  where
    no : r < m.width → ⊥
    no less =
        let up : r + 1 ≤ m.width = omega (arith, less) in
        let larger = pow_mono up in
        let next : r + 1 ≡ suc r = omega arith in
        let double : 2 ^ (r + 1) ≡ 2 * 2 ^ r = ap (λ z. 2 ^ z) next ∙ omega arith in
        let some = pow_pos r in
        let is = m.is in
        omega (arith, larger, double, is, fits, some)

-- 64 bits cut to fewer
cut : (n r : ℕ) → r ≤ 64 → n % 2 ^ 64 % 2 ^ r ≡ n % 2 ^ r
cut n r le =
    let whole : 64 - r + r ≡ 64 = omega (arith, le) in
    let split = mod-pow-add n (64 - r) r in
    let turn : n / 2 ^ r % 2 ^ (64 - r) * 2 ^ r + n % 2 ^ r ≡ n % 2 ^ r + n / 2 ^ r % 2 ^ (64 - r) * 2 ^ r = omega arith in
    ap (λ k. n % 2 ^ k % 2 ^ r) (sym whole) ∙ ap (λ z. z % 2 ^ r) (split ∙ turn) ∙ add-mul-mod_self_right (n % 2 ^ r) (n / 2 ^ r % 2 ^ (64 - r)) (2 ^ r) ∙ mod-mod n (2 ^ r)

pub masked : (n mask r : ℕ) → mask ≡ 2 ^ r - 1 → r ≤ 64 → bit_and (n % 2 ^ 64) mask ≡ n % 2 ^ r
masked n mask r is le = ap (bit_and (n % 2 ^ 64)) is ∙ and_mask (n % 2 ^ 64) r ∙ cut n r le

pub masked-part : (n mask r : ℕ) → mask ≡ 2 ^ r - 1 → bit_and n mask ≡ n % 2 ^ r
masked-part n mask r is = ap (bit_and n) is ∙ and_mask n r

-- a difference in 64 bits, cut to fewer
pub difference : (x y r : ℕ) → r ≤ 64 → y < 2 ^ 64 → (x + (2 ^ 64 - y)) % 2 ^ r ≡ (x + (2 ^ r - y % 2 ^ r)) % 2 ^ r
difference x y r le small =
    let p : ℕ = 2 ^ r in
    let j : ℕ = 2 ^ (64 - r) in
    let some = pow_pos r in
    let whole : 64 - r + r ≡ 64 = omega (arith, le) in
    let product : 2 ^ 64 ≡ j * p = subst (λ k. 2 ^ k ≡ j * p) whole (pow-add 2 (64 - r) r) in
    let q : ℕ = y / p in
    let t : ℕ = y % p in
    let parts : p * q + t ≡ y = div-add-mod y p in
    let low : t < p = mod-lt y some in
    let few : q < j = below q j p some (let c = mul_comm p q in let product-turn = product in omega (arith, parts, small, product-turn, c)) in
    let d : ℕ = j - 1 - q in
    let sum : j ≡ d + 1 + q = omega (arith, few) in
    let spread : j * p ≡ d * p + p + q * p = ap (λ z. z * p) sum ∙ times d q p in
    let c = mul_comm p q in
    let same : x + (2 ^ 64 - y) ≡ x + (p - t) + d * p = omega (arith, product, spread, parts, low, c) in
    ap (λ z. z % p) same ∙ add-mul-mod_self_right (x + (p - t)) d p
  where
    times : (d q p : ℕ) → (d + 1 + q) * p ≡ d * p + p + q * p
    times d q p = grind arith

    below : (q j p : ℕ) → 0 < p → q * p < j * p → q < j
    below q j p some lt = elim (cases_lt q j) [ inl less ↦ less | inr more ↦ absurd (let scale = scaled j q p more in omega (arith, lt, scale)) ]
      where
        scaled : (a b p : ℕ) → a ≤ b → a * p ≤ b * p
        scaled a b p h = let e = mul-le-mul_left p h in let x = mul_comm a p in let y = mul_comm b p in omega (arith, e, x, y)

-- a scale moves by its place
pub scale-shift : (scale w : ℕ) → w ≤ 64 → scale ≡ 2 ^ w % 2 ^ 64 → (scale ≡ 0 → 64 ≡ w)
scale-shift scale w le is none = elim (cases_lt w 64) [
  | inl lt ↦
      let up : w + 1 ≤ 64 = omega (arith, lt) in
      let some = pow_pos w in
      let small : 2 ^ w < 2 ^ 64 = below w lt in
      let same = mod-eq_of_lt small in
      absurd (omega (arith, none, is, same, some))
  | inr ge ↦ omega (arith, le, ge)
]
  where
    below : (w : ℕ) → w < 64 → 2 ^ w < 2 ^ 64
    below w lt =
        let up : w + 1 ≤ 64 = omega (arith, lt) in
        let larger = pow_mono up in
        let next : w + 1 ≡ suc w = omega arith in
        let double : 2 ^ (w + 1) ≡ 2 * 2 ^ w = ap (λ z. 2 ^ z) next ∙ omega arith in
        let some = pow_pos w in
        omega (arith, larger, double, some)

pub scale-place : (scale w z : ℕ) → w ≤ 64 → scale ≡ 2 ^ w % 2 ^ 64 → bit_at scale z ≡ 1 → z ≡ w
scale-place scale w z le is here = elim (cases_eq z w) [
  | inl same ↦ same
  | inr other ↦ absurd (elim (cases_lt w 64) [
    | inl lt ↦ (let none = ap (λ n. bit_at n z) (is ∙ mod-eq_of_lt (below w lt)) ∙ bit_at-pow_other w z other in omega (arith, here, none))
    | inr ge ↦
        let full : w ≡ 64 = omega (arith, le, ge) in
        let zero-scale : scale ≡ 0 = is ∙ ap (λ k. 2 ^ k % 2 ^ 64) full ∙ mod_self (2 ^ 64) in
        let none = ap (λ n. bit_at n z) zero-scale ∙ nothing z in
        omega (arith, here, none)
  ])
]
  where
    nothing : (z : ℕ) → bit_at 0 z ≡ 0
    nothing z = let e : 0 / 2 ^ z ≡ 0 = by (2 ^ z) in ap (λ n. n % 2) e
      where
        by : (p : ℕ) → 0 / p ≡ 0
        by p = omega arith

    below : (w : ℕ) → w < 64 → 2 ^ w < 2 ^ 64
    below w lt =
        let up : w + 1 ≤ 64 = omega (arith, lt) in
        let larger = pow_mono up in
        let next : w + 1 ≡ suc w = omega arith in
        let double : 2 ^ (w + 1) ≡ 2 * 2 ^ w = ap (λ z. 2 ^ z) next ∙ omega arith in
        let some = pow_pos w in
        omega (arith, larger, double, some)

-- ---- words

pub small-word : (s : ℕ → Bool) (xs : List ℕ) → length xs ≤ 64 → word s xs < 2 ^ 64
small-word s xs le = let small = word-small s xs in let larger = pow_mono le in omega (arith, small, larger)

pub single-value : (b : Bool) → one_if_true b + 2 * 0 ≡ one_if b
single-value true = refl
single-value false = refl

pub single-means : (n : Net) (x : ℕ) (r : List ℕ) (f : (ℕ → Bool) → Bool) → Means n x f → r ≡ x ∷ [] → MeansWord n r (λ v. one_if (f v))
single-means n x r f m is = subst (λ w. MeansWord n w (λ v. one_if (f v))) (sym is)
    (record { known = (m.known, tt); value = λ v e. ap (λ b. one_if_true b + 2 * 0) (m.value v e) ∙ single-value (f v) })

pub choice-is : (c x y : ℕ) → (if not (c == 0) then x else y) ≡ chosen c x y
choice-is zero x y = refl
choice-is (suc c) x y = ap (λ b. if not b then x else y) (ne_eqb (suc c) 0 (λ e. omega (arith, e)))

pub means-same : (n : Net) (r : List ℕ) (f g : (ℕ → Bool) → ℕ) → ((v : ℕ → Bool) → f v ≡ g v) → MeansWord n r f → MeansWord n r g
means-same n r f g same m = record { known = m.known; value = λ v e. m.value v e ∙ same v }

-- ---- places

pub number-at : (s : ℕ → Bool) (ws : List (List ℕ)) (i : ℕ) → get_or (numbers s ws) i 0 ≡ word s (get_or ws i [])
number-at s [] i = refl
number-at s (w ∷ ws) zero = refl
number-at s (w ∷ ws) (suc i) = number-at s ws i

pub row-at : (s : ℕ → Bool) (ms : List (List (List ℕ))) (k : ℕ) → get_or (rows s ms) k [] ≡ numbers s (get_or ms k [])
row-at s [] k = refl
row-at s (m ∷ ms) zero = refl
row-at s (m ∷ ms) (suc k) = row-at s ms k

pub word-of : (n : Net) (ws : List (List ℕ)) (i : ℕ) → AreWords n ws → IsWord n (get_or ws i [])
word-of n [] i a = record { known = tt; narrow = omega arith }
word-of n (w ∷ ws) zero a = a.0
word-of n (w ∷ ws) (suc i) a = word-of n ws i a.1

pub row-of : (n : Net) (ms : List (List (List ℕ))) (k : ℕ) → AreRows n ms → AreWords n (get_or ms k [])
row-of n [] k a = tt
row-of n (m ∷ ms) zero a = a.0
row-of n (m ∷ ms) (suc k) a = row-of n ms k a.1

pub known-words : (n : Net) (ws : List (List ℕ)) → AreWords n ws → memory.AreWords n ws
known-words n [] a = tt
known-words n (w ∷ ws) a = (a.0.known, known-words n ws a.1)

pub narrow-words : (n : Net) (ws : List (List ℕ)) → AreWords n ws → memory.AreWithin 64 ws
narrow-words n [] a = tt
narrow-words n (w ∷ ws) a = (a.0.narrow, narrow-words n ws a.1)

pub both-ok : {A E : Type 0} (r : Result A E) (P Q R : A → Type 0) → ((x : A) → P x → Q x → R x) → IfOk r P → IfOk r Q → IfOk r R
both-ok (Ok x) P Q R f p q = f x p q
both-ok (Err e) P Q R f p q = tt

pub joined-number : (F B scale w : ℕ) → w ≤ 64 → scale ≡ 2 ^ w % 2 ^ 64 → (F * 2 ^ w + B) % 2 ^ 64 ≡ (F * scale % 2 ^ 64 + B) % 2 ^ 64
joined-number F B scale w le is = elim (cases_lt w 64) [
  | inl lt ↦
      let same : scale ≡ 2 ^ w = is ∙ mod-eq_of_lt (power-below w lt) in
      sym (mod-add-mod (F * scale) (2 ^ 64) B ∙ ap (λ z. (F * z + B) % 2 ^ 64) same)
  | inr ge ↦
      let full : w ≡ 64 = omega (arith, le, ge) in
      let none : scale ≡ 0 = is ∙ ap (λ k. 2 ^ k % 2 ^ 64) full ∙ mod_self (2 ^ 64) in
      let gone : F * 0 + B ≡ B = omega arith in
      ap (λ k. (F * 2 ^ k + B) % 2 ^ 64) full ∙ mul-add-mod_self_right F (2 ^ 64) B ∙ sym (mod-add-mod (F * scale) (2 ^ 64) B ∙ ap (λ z. (F * z + B) % 2 ^ 64) none ∙ ap (λ z. z % 2 ^ 64) gone)
]
  where
    power-below : (w : ℕ) → w < 64 → 2 ^ w < 2 ^ 64
    power-below w lt =
        let up : w + 1 ≤ 64 = omega (arith, lt) in
        let larger = pow_mono up in
        let next : w + 1 ≡ suc w = omega arith in
        let double : 2 ^ (w + 1) ≡ 2 * 2 ^ w = ap (λ z. 2 ^ z) next ∙ omega arith in
        let some = pow_pos w in
        omega (arith, larger, double, some)

pub word-number : (s : ℕ → Bool) (ws : List (List ℕ)) (i : ℕ) (w : List ℕ) → w ≡ get_or ws i [] → word s w ≡ get_or (numbers s ws) i 0
word-number s ws i w is = ap (word s) is ∙ sym (number-at s ws i)

pub part-known : (n : Net) (w part : List ℕ) (k : ℕ) → 0 < n.start → IsWord n w → ((k : ℕ) → 0 < k → AreBelow k w → AreBelow k part) → length part ≡ k → k ≤ 64 → IsWord n part
part-known n w part k front word known count le = record { known = known (n.start + length n.gates) (bound-some n front) word.known; narrow = subst (λ j. j ≤ 64) (sym count) le }
