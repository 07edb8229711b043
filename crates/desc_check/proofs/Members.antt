-- Members of lists: kept by a filter, found by a test, and in a strict order.
use Rattle.std.proofs.Common.{◌≡◌, ℕ, zero, suc, ◌+◌, ◌<◌, ◌⊎◌, inl, inr, Bool, true, false, cond, ◌||◌, List, [], ◌∷◌, length, map, get_or, refl, sym, ap, ◌∙◌, subst, arith, zero-add}
use Rattle.std.specs.Prelude.{All, AllPairs, Contains}
use Rattle.std.specs.List.{filter, list_any, range_with_len}
use Rattle.std.proofs.lemmas.List.{length-map, get_or-map}
use Rattle.std.proofs.lemmas.List.FromFn.{length-range_with_len, get_or-range_with_len}
use Rattle.std.proofs.lemmas.List.Elements.{All-filter, All-contains, All-contains_itself, filter_passes}
use Rattle.std.proofs.lemmas.List.Folds.{Any-from_list_any, list_any-from_Any}

-- ---- the first element, and the rest

first : {X : Type 0} (x : X) (xs : List X) → Contains (x ∷ xs) x
first x xs = (0, omega arith, refl)

later : {X : Type 0} (x : X) (xs : List X) (z : X) → Contains xs z → Contains (x ∷ xs) z
later x xs z inside = (suc inside.0, omega (arith, inside.1), inside.2)

one-of : {X : Type 0} (x : X) (xs : List X) (z : X) → Contains (x ∷ xs) z → (x ≡ z) ⊎ Contains xs z
one-of {X} x xs z inside = go inside.0 inside.1 inside.2
  where
    go : (k : ℕ) → k < suc (length xs) → get_or (x ∷ xs) k z ≡ z → (x ≡ z) ⊎ Contains xs z
    go zero less at = inl at
    go (suc k) less at = inr (k, omega (arith, less), at)

nothing : {X : Type 0} (z : X) → Contains [] z → ⊥
nothing z inside = omega (arith, inside.1)

-- ---- a map, a filter and a test

pub mapped : {X Y : Type 0} (f : X → Y) (xs : List X) (z : X) → Contains xs z → Contains (map f xs) (f z)
mapped f xs z inside =
    let len : length (map f xs) ≡ length xs = length-map xs f in
    (inside.0, omega (arith, inside.1), get_or-map f xs inside.0 z (f z) inside.1 ∙ ap f inside.2)

pub kept : {X : Type 0} (q : X → Bool) (xs : List X) (z : X) → Contains xs z → q z ≡ true → Contains (filter q xs) z
kept q [] z inside passes = absurd (nothing z inside)
kept {X} q (x ∷ xs) z inside passes = go (q x) refl (one-of x xs z inside) (λ within. kept q xs z within passes)
  where
    go : (b : Bool) → q x ≡ b → (x ≡ z) ⊎ Contains xs z → (Contains xs z → Contains (filter q xs) z)
        → Contains (cond b (x ∷ filter q xs) (filter q xs)) z
    go true e (inl at) more = (0, omega arith, at)
    go true e (inr within) more = later x (filter q xs) z (more within)
    go false e (inl at) more = absurd (let no : true ≡ false = sym passes ∙ ap q (sym at) ∙ e in cc)
    go false e (inr within) more = more within

pub passed : {X : Type 0} (q : X → Bool) (xs : List X) (z : X) → Contains (filter q xs) z
    → Contains xs z × (q z ≡ true)
passed q xs z inside = (
  All-contains (Contains xs) (filter q xs) z (All-filter q (Contains xs) xs (All-contains_itself xs)) inside,
  All-contains (λ x. q x ≡ true) (filter q xs) z (filter_passes q xs) inside,
)

-- a member that passes the test
pub there : {X : Type 0} (q : X → Bool) (xs : List X) (z : X) → Contains xs z → q z ≡ true → list_any q xs ≡ true
there q xs z inside passes = list_any-from_Any q xs (inside.0, z, inside.1, inside.2, passes)

list_any-map : {X Y : Type 0} (q : Y → Bool) (f : X → Y) (xs : List X)
    → list_any q (map f xs) ≡ list_any (λ x. q (f x)) xs
list_any-map q f [] = refl
list_any-map q f (x ∷ xs) = ap (λ b. q (f x) || b) (list_any-map q f xs)

pub there-in-map : {X Y : Type 0} (q : Y → Bool) (f : X → Y) (xs : List X) (z : X) → Contains xs z → q (f z) ≡ true
    → list_any q (map f xs) ≡ true
there-in-map q f xs z inside passes = list_any-map q f xs ∙ there (λ x. q (f x)) xs z inside passes

-- the member whose image passes
pub record Found {X : Type 0} (q : X → Bool) (xs : List X) : Type 0 where
  pub member : X
  pub inside : Contains xs member
  pub passes : q member ≡ true

pub found-in-map : {X Y : Type 0} (q : Y → Bool) (f : X → Y) (xs : List X) → list_any q (map f xs) ≡ true
    → Found (λ x. q (f x)) xs
found-in-map q f xs h =
    let any = Any-from_list_any (λ x. q (f x)) xs (sym (list_any-map q f xs) ∙ h) in
    record { member = any.1; inside = (any.0, any.2, any.3); passes = any.4 }

-- ---- the numbers below n

pub numbered : (n k : ℕ) → k < n → Contains (range_with_len 0 n) k
numbered n k less =
    let len = length-range_with_len 0 n in
    (k, omega arith, get_or-range_with_len 0 n k k less ∙ zero-add k)

pub all-below : (n : ℕ) → All (λ k. k < n) (range_with_len 0 n)
all-below n k z less =
    let len = length-range_with_len 0 n in
    let at : get_or (range_with_len 0 n) k z ≡ 0 + k = get_or-range_with_len 0 n k z (omega arith) in
    omega arith

pub all-rise : (n : ℕ) → AllPairs (λ x y. x < y) (range_with_len 0 n)
all-rise n i j z less under =
    let len = length-range_with_len 0 n in
    let at_i : get_or (range_with_len 0 n) i z ≡ 0 + i = get_or-range_with_len 0 n i z (omega arith) in
    let at_j : get_or (range_with_len 0 n) j z ≡ 0 + j = get_or-range_with_len 0 n j z (omega arith) in
    omega arith

-- ---- a strict order

behind : {X : Type 0} (R : X → X → Type 0) (x : X) (xs : List X) → AllPairs R (x ∷ xs) → (z : X) → Contains xs z
    → R x z
behind R x xs rise z inside = subst (R x) inside.2 (rise 0 (suc inside.0) z (omega arith) (omega (arith, inside.1)))

rest : {X : Type 0} (R : X → X → Type 0) (xs : List X) (x : X) → AllPairs R (x ∷ xs) → AllPairs R xs
rest R xs x rise i j z less under = rise (suc i) (suc j) z (omega arith) (omega arith)

-- the members behind one first element are those behind the other
members-behind : {X : Type 0} (R : X → X → Type 0) → ((x y : X) → R x y → R y x → ⊥) → (x y : X) (xs ys : List X)
    → x ≡ y → AllPairs R (x ∷ xs)
    → ((z : X) → Contains (x ∷ xs) z → Contains (y ∷ ys) z) → (z : X) → Contains xs z → Contains ys z
members-behind R one-way x y xs ys same rise all z inside =
    elim (one-of y ys z (all z (later x xs z inside))) [
      | inl at ↦ absurd (let itself : R x x = subst (R x) (sym (same ∙ at)) (behind R x xs rise z inside) in
          one-way x x itself itself)
      | inr within ↦ within
    ]

same-first : {X : Type 0} (R : X → X → Type 0) → ((x y : X) → R x y → R y x → ⊥) → (x y : X) (xs ys : List X)
    → AllPairs R (x ∷ xs) → AllPairs R (y ∷ ys)
    → Contains (y ∷ ys) x → Contains (x ∷ xs) y → x ≡ y
same-first R one-way x y xs ys rise climb here back =
    elim (one-of y ys x here) [
      | inl at ↦ sym at
      | inr above ↦
          elim (one-of x xs y back) [
            | inl at ↦ at
            | inr below ↦ absurd
                (one-way x y (behind R x xs rise y below) (behind R y ys climb x above))
          ]
    ]

-- lists in one strict order with the same members are one list
pub one-list : {X : Type 0} (R : X → X → Type 0) → ((x y : X) → R x y → R y x → ⊥) → (xs ys : List X) → AllPairs R xs
    → AllPairs R ys
    → ((z : X) → Contains xs z → Contains ys z) → ((z : X) → Contains ys z → Contains xs z) → xs ≡ ys
one-list R one-way [] [] rise climb here back = refl
one-list R one-way [] (y ∷ ys) rise climb here back = absurd (nothing y (back y (first y ys)))
one-list R one-way (x ∷ xs) [] rise climb here back = absurd (nothing x (here x (first x xs)))
one-list {X} R one-way (x ∷ xs) (y ∷ ys) rise climb here back =
    let head : x ≡ y = same-first R one-way x y xs ys rise climb (here x (first x xs)) (back y (first y ys)) in
    let tail : xs ≡ ys = one-list R one-way xs ys (rest R xs x rise) (rest R ys y climb)
    (members-behind R one-way x y xs ys head rise here)
    (members-behind R one-way y x ys xs (sym head) climb back) in
    ap (λ (z : X). z ∷ xs) head ∙ ap (λ zs. y ∷ zs) tail
