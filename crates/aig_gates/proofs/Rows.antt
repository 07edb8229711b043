-- Rows of words: what is selected, and what is stored.
use Rattle.std.proofs.Common.{◌≡◌, ℕ, zero, suc, ◌+◌, ◌*◌, ◌<◌, ◌≤◌, ◌^◌, Bool, true, false, ◌&&◌, List, [], ◌∷◌, ◌++◌, length, map, take, get_or, set, refl, sym, ◌∙◌, ap, arith, inl, inr, length-set, get_or-set_same, get_or-set_other}
use Rattle.std.specs.Prelude.{max, ◌==◌, if◌then◌else◌, slice_set}
use Rattle.std.specs.List.{AllByRecursion}
use Rattle.std.proofs.lemmas.Bool.{cases_lt, cases_eq, eq-eqb, ne_eqb}
use Rattle.std.proofs.lemmas.List.{take_more, take_all, length-take-le, length_push, length-map, get_or_append_left, get_or_push, get_or_past, ext_get_or}
use Rattle.std.proofs.Math.Nat.{mul_comm, mul_assoc, mul-add}
use Rattle.aig_model.specs.Form.{literal, one_if_true, word}
use Rattle.aig_model.specs.Netlist.{Net, Grows, IsOf, AreOf, settle_gates, Means, MeansWord}
use Rattle.aig_model.proofs.Netlists.{all-wider, grows-none, grows-twice, grown-literal, grown-word, word-append}
use Rattle.aig_gates.specs.declared.words.Way.TheVariants.{Choose}
use Rattle.aig_gates.specs.Zips.{combined}
use Rattle.aig_gates.specs.Memory.{AreWords, AreWithin, IsHalved, IsSelected, IsStored}
use Rattle.aig_gates.proofs.Zipped.{double-power}

pub words-wider : (old new : Net) → Grows old new → (row : List (List ℕ)) → AreWords old row → AreWords new row
words-wider old new g [] a = tt
words-wider old new g (w ∷ ws) a = (all-wider old new g w a.0, words-wider old new g ws a.1)

pub word-at : (n : Net) (row : List (List ℕ)) (i : ℕ) → AreWords n row → AreOf n (get_or row i [])
word-at n [] i a = tt
word-at n (w ∷ ws) zero a = a.0
word-at n (w ∷ ws) (suc i) a = word-at n ws i a.1

pub within-at : (most : ℕ) (row : List (List ℕ)) (i : ℕ) → AreWithin most row → length (get_or row i []) ≤ most
within-at most [] i a = omega arith
within-at most (w ∷ ws) zero a = a.0
within-at most (w ∷ ws) (suc i) a = within-at most ws i a.1

all-behind : (P : List ℕ → Type 0) (row : List (List ℕ)) (w : List ℕ) → AllByRecursion P row → P w → AllByRecursion P (row ++ w ∷ [])
all-behind P [] w a p = (p, tt)
all-behind P (x ∷ xs) w a p = (a.0, all-behind P xs w a.1 p)

-- ---- half a row

pub half-none : (n : Net) (row : List (List ℕ)) (bit : ℕ) → IsHalved n n row bit [] 0
half-none n row bit = record { grows = grows-none n; known = tt; count = refl; within = λ most a. tt; value = λ v e k lt. absurd (omega (arith, lt)) }

pub half-more : (n0 n m : Net) (row made : List (List ℕ)) (bit i : ℕ) (x : List ℕ) → AreWords n0 row → IsOf n0 bit → Grows n m
    → MeansWord m x (λ v. let s = settle_gates n v in combined (Choose bit) s (word s (get_or row (2 * i + 1) [])) (word s (get_or row (2 * i) [])))
    → length x ≡ max (length (get_or row (2 * i + 1) [])) (length (get_or row (2 * i) [])) → IsHalved n0 n row bit made i → IsHalved n0 m row bit (made ++ x ∷ []) (i + 1)
half-more n0 n m row made bit i x kr kb g means size z = record {
  grows = grows-twice n0 n m z.grows g;
  known = all-behind (AreOf m) made x (words-wider n m g made z.known) means.known;
  count = length_push made x ∙ ap (λ q. q + 1) z.count;
  within = λ most a. all-behind (λ w. length w ≤ most) made x (z.within most a) (let odd = within-at most row (2 * i + 1) a in let even = within-at most row (2 * i) a in omega (arith, size, odd, even));
  value = λ v e k lt. elim (cases_lt k i) [
    | inl less ↦
        let here : k < length made = omega (arith, less, z.count) in
        ap (word (settle_gates m v)) (get_or_append_left made (x ∷ []) [] k here) ∙ grown-word n m g v (get_or made k []) (word-at n made k z.known) ∙ z.value v e k less
    | inr more ↦
        let same : k ≡ i = omega (arith, more, lt) in
        let s = settle_gates n0 v in
        let u = settle_gates n v in
        let b = literal s bit in
        let odd = get_or row (2 * i + 1) [] in
        let even = get_or row (2 * i) [] in
        ap (word (settle_gates m v)) (get_or_push made x [] k (z.count ∙ sym same)) ∙ means.value v e ∙ ap (λ q. if q then word u odd else word u even) (grown-literal n0 n z.grows v bit kb)
        ∙ ap (λ q. if b then q else word u even) (grown-word n0 n z.grows v odd (word-at n0 row (2 * i + 1) kr)) ∙ ap (λ q. if b then word s odd else q) (grown-word n0 n z.grows v even (word-at n0 row (2 * i) kr))
        ∙ by-bit s b i ∙ ap (λ j. word s (get_or row (2 * j + one_if_true b) [])) (sym same)
  ];
}
  where
    by-bit : (s : ℕ → Bool) (b : Bool) (i : ℕ) → (if b then word s (get_or row (2 * i + 1) []) else word s (get_or row (2 * i) [])) ≡ word s (get_or row (2 * i + one_if_true b) [])
    by-bit s true i = refl
    by-bit s false i = let e : 2 * i ≡ 2 * i + 0 = omega arith in ap (λ j. word s (get_or row j [])) e

-- ---- a word by its index

pub select-none : (n : Net) (row : List (List ℕ)) (index : List ℕ) → AreWords n row → IsSelected n n row index row 0
select-none n row index kr = record { grows = grows-none n; known = kr; within = λ most a. a; value = λ v e k. (let w = nothing (settle_gates n v) index in let same : k ≡ 2 ^ 0 * k + word (settle_gates n v) (take 0 index) = omega (arith, w) in ap (λ j. word (settle_gates n v) (get_or row j [])) same) }
  where
    nothing : (s : ℕ → Bool) (xs : List ℕ) → word s (take 0 xs) ≡ 0
    nothing s [] = refl
    nothing s (x ∷ xs) = refl

-- behind the last word too, a half has what the row has
half-at : (n m : Net) (row half : List (List ℕ)) (bit : ℕ) → IsHalved n m row bit half (length half) → length row ≤ 2 * length half → (v : ℕ → Bool) → v 0 ≡ false → (k : ℕ)
    → word (settle_gates m v) (get_or half k []) ≡ word (settle_gates n v) (get_or row (2 * k + one_if_true (literal (settle_gates n v) bit)) [])
half-at n m row half bit z all v e k = elim (cases_lt k (length half)) [
  | inl lt ↦ z.value v e k lt
  | inr past ↦
      let far : length row ≤ 2 * k + one_if_true (literal (settle_gates n v) bit) = omega (arith, past, all) in
      ap (word (settle_gates m v)) (get_or_past half k [] past) ∙ ap (word (settle_gates n v)) (sym (get_or_past row (2 * k + one_if_true (literal (settle_gates n v) bit)) [] far))
]

pub select-more : (n0 n m : Net) (row words half : List (List ℕ)) (index : List ℕ) (i : ℕ) → AreOf n0 index → i < length index → Grows n m → IsHalved n m words (get_or index i 0) half (length half) → length words ≤ 2 * length half → IsOf n0 (get_or index i 0)
    → IsSelected n0 n row index words i → IsSelected n0 m row index half (i + 1)
select-more n0 n m row words half index i ki lt g h all kb z = record {
  grows = grows-twice n0 n m z.grows g;
  known = h.known;
  within = λ most a. h.within most (z.within most a);
  value = λ v e k.
      let s = settle_gates n0 v in
      let bit = get_or index i 0 in
      let b = one_if_true (literal s bit) in
      let W = word s (take i index) in
      let next : word s (take (i + 1) index) ≡ W + 2 ^ i * b = ap (word s) (take_more index i 0 lt) ∙ word-append s (take i index) bit ∙ ap (λ q. W + 2 ^ q * b) (length-take-le i index (omega (arith, lt))) in
      half-at n m words half bit h all v e k ∙ ap (λ q. word (settle_gates n v) (get_or words (2 * k + one_if_true q) [])) (grown-literal n0 n z.grows v bit kb) ∙ z.value v e (2 * k + b)
      ∙ ap (λ j. word s (get_or row j [])) (place (2 ^ i) (2 ^ (i + 1)) k b W (word s (take (i + 1) index)) (double-power i) next);
}
  where
    place : (p q k b W N : ℕ) → q ≡ 2 * p → N ≡ W + p * b → p * (2 * k + b) + W ≡ q * k + N
    place p q k b W N double next =
        let split = mul-add p (2 * k) b in
        let turn : p * (2 * k) ≡ 2 * p * k = sym (mul_assoc p 2 k) ∙ ap (λ z. z * k) (mul_comm p 2) in
        let e : q * k ≡ 2 * p * k = ap (λ z. z * k) double in
        omega (arith, split, turn, e, next)

number-at : (s : ℕ → Bool) (row : List (List ℕ)) (i : ℕ) → get_or (map (word s) row) i 0 ≡ word s (get_or row i [])
number-at s [] i = refl
number-at s (w ∷ ws) zero = refl
number-at s (w ∷ ws) (suc i) = number-at s ws i

pub select-is : (n0 n : Net) (row words : List (List ℕ)) (index : List ℕ) (i : ℕ) → length index ≤ i → IsSelected n0 n row index words i
    → MeansWord n (get_or words 0 []) (λ v. let s = settle_gates n0 v in get_or (map (word s) row) (word s index) 0)
select-is n0 n row words index i all z = record {
  known = word-at n words 0 z.known;
  value = λ v e.
      let s = settle_gates n0 v in
      let W : word s (take i index) ≡ word s index = ap (word s) (take_all i index all) in
      let none : 2 ^ i * 0 ≡ 0 = omega arith in
      let same : 2 ^ i * 0 + word s (take i index) ≡ word s index = omega (arith, none, W) in
      z.value v e 0 ∙ ap (λ j. word s (get_or row j [])) same ∙ sym (number-at s row (word s index));
}

-- ---- a store

pub store-none : (n : Net) (row : List (List ℕ)) (enable : ℕ) (index value : List ℕ) → IsStored n n row enable index value [] 0
store-none n row enable index value = record { grows = grows-none n; known = tt; count = refl; within = λ most a b. tt; words = λ v e k lt. absurd (omega (arith, lt)) }

pub store-more : (n0 n m : Net) (row made : List (List ℕ)) (enable : ℕ) (index value : List ℕ) (i hit : ℕ) (x : List ℕ) → AreWords n0 row → AreOf n0 value → Grows n m → Grows n0 m
    → (p : Net) → Grows n0 p → Grows p m → Means p hit (λ v. literal (settle_gates n0 v) enable && (word (settle_gates n0 v) index == i))
    → MeansWord m x (λ v. let s = settle_gates p v in combined (Choose hit) s (word s value) (word s (get_or row i [])))
    → length x ≡ max (length value) (length (get_or row i [])) → IsStored n0 n row enable index value made i → IsStored n0 m row enable index value (made ++ x ∷ []) (i + 1)
store-more n0 n m row made enable index value i hit x kr kv g gm p gp gpm hits means size z = record {
  grows = gm;
  known = all-behind (AreOf m) made x (words-wider n m g made z.known) means.known;
  count = length_push made x ∙ ap (λ q. q + 1) z.count;
  within = λ most a b. all-behind (λ w. length w ≤ most) made x (z.within most a b) (let old = within-at most row i a in omega (arith, size, old, b));
  words = λ v e k lt. elim (cases_lt k i) [
    | inl less ↦
        let here : k < length made = omega (arith, less, z.count) in
        ap (word (settle_gates m v)) (get_or_append_left made (x ∷ []) [] k here) ∙ grown-word n m g v (get_or made k []) (word-at n made k z.known) ∙ z.words v e k less
    | inr more ↦
        let same : k ≡ i = omega (arith, more, lt) in
        let s = settle_gates n0 v in
        let u = settle_gates p v in
        let t = literal s enable && (word s index == i) in
        ap (word (settle_gates m v)) (get_or_push made x [] k (z.count ∙ sym same)) ∙ means.value v e ∙ ap (λ q. if q then word u value else word u (get_or row i [])) (hits.value v e)
        ∙ ap (λ q. if t then q else word u (get_or row i [])) (grown-word n0 p gp v value kv) ∙ ap (λ q. if t then word s value else q) (grown-word n0 p gp v (get_or row i []) (word-at n0 row i kr))
        ∙ ap (λ j. if literal s enable && (word s index == j) then word s value else word s (get_or row j [])) (sym same)
  ];
}

pub store-is : (n0 n : Net) (row made : List (List ℕ)) (enable : ℕ) (index value : List ℕ) → IsStored n0 n row enable index value made (length row) → (v : ℕ → Bool) → v 0 ≡ false
    → map (word (settle_gates n v)) made ≡ (let s = settle_gates n0 v in if literal s enable then slice_set (map (word s) row) (word s index) (word s value) else map (word s) row)
store-is n0 n row made enable index value z v e = by-enable (literal s enable) (λ k lt. z.words v e k lt)
  where
    s : ℕ → Bool
    s = settle_gates n0 v

    u : ℕ → Bool
    u = settle_gates n v

    old : List ℕ
    old = map (word s) row

    long : length (map (word u) made) ≡ length row
    long = length-map made (word u) ∙ z.count

    at : (i : ℕ) → get_or (map (word u) made) i 0 ≡ word u (get_or made i [])
    at i = number-at u made i

    by-enable : (b : Bool) → ((k : ℕ) → k < length row → word u (get_or made k []) ≡ (if b && (word s index == k) then word s value else word s (get_or row k [])))
        → map (word u) made ≡ (if b then set old (word s index) (word s value) else old)
    by-enable false h = ext_get_or 0 (map (word u) made) old (long ∙ sym (length-map row (word s))) (λ i lt. at i ∙ h i (omega (arith, lt, long)) ∙ sym (number-at s row i))
    by-enable true h =
        ext_get_or 0 (map (word u) made) (set old (word s index) (word s value)) (long ∙ sym (length-set old (word s index) (word s value) ∙ length-map row (word s)))
        (λ i lt. at i ∙ h i (omega (arith, lt, long)) ∙ here i (omega (arith, lt, long)))
      where
        here : (i : ℕ) → i < length row → (if word s index == i then word s value else word s (get_or row i [])) ≡ get_or (set old (word s index) (word s value)) i 0
        here i lt = elim (cases_eq (word s index) i) [
          | inl same ↦
              let within : word s index < length old = (let l = length-map row (word s) in omega (arith, same, lt, l)) in
              ap (λ b. if b then word s value else word s (get_or row i [])) (eq-eqb (word s index) i same) ∙ sym (ap (λ j. get_or (set old (word s index) (word s value)) j 0) (sym same) ∙ get_or-set_same old (word s index) (word s value) 0 within)
          | inr other ↦
              ap (λ b. if b then word s value else word s (get_or row i [])) (ne_eqb (word s index) i other) ∙ sym (number-at s row i) ∙ sym (get_or-set_other old (word s index) i (word s value) 0 (λ q. other (sym q)))
        ]
