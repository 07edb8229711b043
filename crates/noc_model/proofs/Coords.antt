-- Coordinates and tiles are one to one, and a step along a side changes one coordinate.
use Rattle.std.proofs.Common.{◌≡◌, ℕ, zero, suc, ◌+◌, ◌*◌, ◌/◌, ◌%◌, ◌<◌, ◌≤◌, List, [], ◌∷◌, length, take, refl, sym, ◌∙◌, ap, arith, mul_comm, mul_assoc, mul-add}
use Rattle.std.proofs.Math.Nat.{add-mul-mod_self_left, mod-eq_of_lt, add-mul-div_left, div-eq_of_lt, div-lt_iff_lt-mul, mod-add-div, div-div-eq-div-mul}
use Rattle.std.proofs.lemmas.Nat.{mul-le}
use Rattle.std.proofs.lemmas.List.Elements.{All-head, All-tail, All-take}
use Rattle.std.proofs.lemmas.List.Sums.{sum_by-set}
use Rattle.std.specs.Prelude.{sum_by}
use Rattle.noc_model.specs.Sound.{AreSides}
use Rattle.std.specs.Prelude.{slice_set, slice_index, slice_index_or}
use Rattle.std.proofs.lemmas.Bool.Decides.{nat_tests}
use Rattle.noc_model.specs.Plan.{product}
use Rattle.noc_model.specs.Place.{coords_in, tile_in, next_in, last_in}

-- each coordinate is below its side
abbrev pub Within : List ℕ → List ℕ → Type 0
Within [] [] = Unit {0}
Within [] (c ∷ cs) = ⊥
Within (k ∷ ks) [] = ⊥
Within (k ∷ ks) (c ∷ cs) = (c < k) × Within ks cs

-- no side is 0
abbrev pub AllPositive : List ℕ → Type 0
AllPositive [] = Unit {0}
AllPositive (k ∷ ks) = (0 < k) × AllPositive ks

mod-front : (k c m : ℕ) → c < k → (c + k * m) % k ≡ c
mod-front k c m h = add-mul-mod_self_left c k m ∙ mod-eq_of_lt h

div-front : (k c m : ℕ) → c < k → (c + k * m) / k ≡ m
div-front k c m h = let some : 0 < k = omega arith in add-mul-div_left c m some ∙ (let e : c / k ≡ 0 = div-eq_of_lt h in omega (arith, e))

pub coords_in-tile_in : (ks cs : List ℕ) → Within ks cs → coords_in ks (tile_in ks cs) ≡ cs
coords_in-tile_in [] [] h = refl
coords_in-tile_in [] (c ∷ cs) h = absurd h
coords_in-tile_in (k ∷ ks) [] h = absurd h
coords_in-tile_in (k ∷ ks) (c ∷ cs) h =
    let front = mod-front k c (tile_in ks cs) h.0 in
    let rest = div-front k c (tile_in ks cs) h.0 in
    let ih = coords_in-tile_in ks cs h.1 in
    rw (front, rest, ih) refl

pub within-coords_in : (ks : List ℕ) (n : ℕ) → AllPositive ks → Within ks (coords_in ks n)
within-coords_in [] n h = tt
within-coords_in (k ∷ ks) n h = let some : 0 < k = h.0 in (omega arith, within-coords_in ks (n / k) h.1)

pub tile_in-coords_in : (ks : List ℕ) (n : ℕ) → AllPositive ks → n < product ks → tile_in ks (coords_in ks n) ≡ n
tile_in-coords_in [] n h below = omega arith
tile_in-coords_in (k ∷ ks) n h below =
    let less : n / k < product ks =
    (div-lt_iff_lt-mul {k = k} {x = n} {y = product ks} h.0).1 (rw (mul_comm (product ks) k) below) in
    let ih = tile_in-coords_in ks (n / k) h.1 less in
    rw ih (mod-add-div n k)

pub within-set : (ks cs : List ℕ) (i x : ℕ) → Within ks cs → x < slice_index_or ks i 1 → Within ks (slice_set cs i x)
within-set [] [] i x h below = tt
within-set [] (c ∷ cs) i x h below = absurd h
within-set (k ∷ ks) [] i x h below = absurd h
within-set (k ∷ ks) (c ∷ cs) zero x h below = (below, h.1)
within-set (k ∷ ks) (c ∷ cs) (suc i) x h below = (h.0, within-set ks cs i x h.1 below)

-- the sum, where one coordinate changes
pub sum-set : (cs : List ℕ) (i x : ℕ) → i < length cs
    → sum_by (λ c. c) (slice_set cs i x) + slice_index cs i ≡ sum_by (λ c. c) cs + x
sum-set cs i x h = sum_by-set (λ c. c) cs i x 0 h

pub length-coords : (ks : List ℕ) (n : ℕ) → length (coords_in ks n) ≡ length ks
length-coords [] n = refl
length-coords (k ∷ ks) n = ap suc (length-coords ks (n / k))

pub length-within : (ks cs : List ℕ) → Within ks cs → length cs ≡ length ks
length-within [] [] h = refl
length-within [] (c ∷ cs) h = absurd h
length-within (k ∷ ks) [] h = absurd h
length-within (k ∷ ks) (c ∷ cs) h = ap suc (length-within ks cs h.1)

-- a side above 1 is one of the list's
pub in-sides : (ks : List ℕ) (i : ℕ) → 1 < slice_index_or ks i 1 → i < length ks
in-sides [] i h = absurd (omega arith)
in-sides (k ∷ ks) zero h = omega arith
in-sides (k ∷ ks) (suc i) h = let ih = in-sides ks i h in omega arith

pub coord-within : (ks cs : List ℕ) (i : ℕ) → Within ks cs → i < length ks → slice_index cs i < slice_index_or ks i 1
coord-within [] [] i h below = absurd (omega arith)
coord-within [] (c ∷ cs) i h below = absurd h
coord-within (k ∷ ks) [] i h below = absurd h
coord-within (k ∷ ks) (c ∷ cs) zero h below = h.0
coord-within (k ∷ ks) (c ∷ cs) (suc i) h below = coord-within ks cs i h.1 (omega arith)

pub last-next : (k x : ℕ) → x < k → last_in k (next_in k x) ≡ x
last-next k x h = grind (arith, nat_tests)

pub next-last : (k x : ℕ) → x < k → next_in k (last_in k x) ≡ x
next-last k x h = grind (arith, nat_tests)

pub next-below : (k x : ℕ) → x < k → next_in k x < k
next-below k x h = grind (arith, nat_tests)

pub last-below : (k x : ℕ) → x < k → last_in k x < k
last-below k x h = grind (arith, nat_tests)

-- ---- products of sides

pub positive : (ks : List ℕ) → AreSides ks → AllPositive ks
positive [] h = tt
positive (k ∷ ks) h = (
  (All-head (λ k. (1 ≤ k) × (k ≤ 16)) k ks h).0,
  positive ks (All-tail (λ k. (1 ≤ k) × (k ≤ 16)) k ks h),
)

pub one-le-product : (ks : List ℕ) → AllPositive ks → 1 ≤ product ks
one-le-product [] h = omega arith
one-le-product (k ∷ ks) h = mul-le 1 1 k (product ks) h.0 (one-le-product ks h.1)

pub product-take_more : (ks : List ℕ) (i : ℕ) → i < length ks
    → product (take (i + 1) ks) ≡ product (take i ks) * slice_index ks i
product-take_more [] i h = absurd (omega arith)
product-take_more (k ∷ ks) zero h = omega arith
product-take_more (k ∷ ks) (suc i) h =
    let next : suc i + 1 ≡ suc (i + 1) = omega arith in
    rw next (ap (λ m. k * m) (product-take_more ks i (omega arith)) ∙ sym (mul_assoc k (product (take i ks)) (slice_index ks i)))

pub product-take_le : (ks : List ℕ) (i : ℕ) → AllPositive ks → product (take i ks) ≤ product ks
product-take_le ks zero h = one-le-product ks h
product-take_le [] (suc i) h = omega arith
product-take_le (k ∷ ks) (suc i) h =
    mul-le k (product (take i ks)) k (product ks) (omega arith) (product-take_le ks i h.1)

-- a coordinate by one division and one remainder
pub coords_in-at : (ks : List ℕ) (n i : ℕ) → i < length ks
    → slice_index (coords_in ks n) i ≡ n / product (take i ks) % slice_index ks i
coords_in-at [] n i h = absurd (omega arith)
coords_in-at (k ∷ ks) n zero h = let one : n / 1 ≡ n = omega arith in rw one refl
coords_in-at (k ∷ ks) n (suc i) h =
    coords_in-at ks (n / k) i (omega arith)
    ∙ ap (λ m. m % slice_index ks i) (div-div-eq-div-mul n k (product (take i ks)))

step-suc : (k s r a m n x y : ℕ) → r + k * m ≡ n → a + x * s ≡ m + y * s → (r + k * a) + x * (k * s) ≡ n + y * (k * s)
step-suc k s r a m n x y e ih =
    let l : x * (k * s) ≡ k * (x * s) = sym (mul_assoc x k s) ∙ ap (λ z. z * s) (mul_comm x k) ∙ mul_assoc k x s in
    let q : y * (k * s) ≡ k * (y * s) = sym (mul_assoc y k s) ∙ ap (λ z. z * s) (mul_comm y k) ∙ mul_assoc k y s in
    let up : k * a + k * (x * s) ≡ k * m + k * (y * s) =
    sym (mul-add k a (x * s)) ∙ ap (λ z. k * z) ih ∙ mul-add k m (y * s) in
    omega arith

-- a change of one coordinate moves by whole strides
pub tile_in-set : (ks : List ℕ) (n i y : ℕ) → AllPositive ks → n < product ks → i < length ks
    → tile_in ks (slice_set (coords_in ks n) i y) + slice_index (coords_in ks n) i * product (take i ks) ≡ n + y * product (take i ks)
tile_in-set [] n i y h below there = absurd (omega arith)
tile_in-set (k ∷ ks) n zero y h below there =
    let less : n / k < product ks =
    (div-lt_iff_lt-mul {k = k} {x = n} {y = product ks} h.0).1 (rw (mul_comm (product ks) k) below) in
    let rest : tile_in ks (coords_in ks (n / k)) ≡ n / k = tile_in-coords_in ks (n / k) h.1 less in
    let whole : n % k + k * (n / k) ≡ n = mod-add-div n k in
    rw rest (omega arith)
tile_in-set (k ∷ ks) n (suc i) y h below there =
    let less : n / k < product ks =
    (div-lt_iff_lt-mul {k = k} {x = n} {y = product ks} h.0).1 (rw (mul_comm (product ks) k) below) in
    step-suc k (product (take i ks)) (n % k) (tile_in ks (slice_set (coords_in ks (n / k)) i y)) (n / k) n (slice_index (coords_in ks (n / k)) i) y
    (mod-add-div n k) (tile_in-set ks (n / k) i y h.1 less (omega arith))

-- what is known of a stride
pub strides : (ks : List ℕ) (i : ℕ) → AreSides ks → product ks ≤ 256 → i < length ks
    → (0 < product (take i ks)) × (product (take i ks) * slice_index ks i ≤ 256) × (product (take i ks) ≤ 256)
strides ks i sides few there =
    let front : AreSides (take i ks) = All-take (λ k. (1 ≤ k) × (k ≤ 16)) i ks sides in
    let some : 1 ≤ product (take i ks) = one-le-product (take i ks) (positive (take i ks) front) in
    let more = product-take_more ks i there in
    let le = product-take_le ks i (positive ks sides) in
    let next = product-take_le ks (i + 1) (positive ks sides) in
    (omega arith, omega arith, omega arith)
