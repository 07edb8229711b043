-- A list of a heading, then some ports, then some items.
use Rattle.std.proofs.Common.{◌≡◌, ℕ, zero, suc, ◌+◌, ◌-◌, ◌<◌, ◌≤◌, List, [], ◌∷◌, ◌++◌, length, map, get_or, refl, ◌∙◌, ap, arith, slice_get, Some, length-append, ◌⊎◌, inl, inr}
use Rattle.std.specs.Prelude.{option_map}
use Rattle.std.proofs.lemmas.List.{length-map}
use Rattle.std.proofs.lemmas.Option.{slice_get-map, slice_get_read}
use Rattle.vl_model.proofs.Indexed.{front, behind}

pub mapped : {P Q : Type 0} (f : P → Q) (ps : List P) (i : ℕ) (x : P) → i < length ps → x ≡ get_or ps i x
    → slice_get (map f ps) i ≡ Some (f x)
mapped f ps i x h e = slice_get-map f ps i ∙ ap (option_map f) (slice_get_read ps (length ps) i x refl h e)

pub at-port : {P L : Type 0} (h : L) (f : P → L) (ps : List P) (ys : List L) (n m : ℕ) (x : P) → m ≡ length ps
    → (n ≡ 0 → ⊥) → n ≤ m → x ≡ get_or ps (n - 1) x
    → slice_get (h ∷ (map f ps ++ ys)) n ≡ Some (f x)
at-port h f ps ys zero m x same some in_ports e = absurd (some refl)
at-port h f ps ys (suc k) m x same some in_ports e =
    let within : k < length (map f ps) = rw length-map (omega arith) in
    let one : suc k - 1 ≡ k = omega arith in
    front (map f ps) ys k within ∙ mapped f ps k x (omega arith) (e ∙ ap (λ i. get_or ps i x) one)

pub at-item : {P Q L : Type 0} (h : L) (f : P → L) (g : Q → L) (ps : List P) (qs : List Q) (n m : ℕ) (x : Q)
    → m ≡ length ps → m < n → n < suc (length (map f ps ++ map g qs)) → x ≡ get_or qs (n - 1 - m) x
    → slice_get (h ∷ (map f ps ++ map g qs)) n ≡ Some (g x)
at-item h f g ps qs n m x same past whole e =
    let ports : length (map f ps) ≡ length ps = rw length-map refl in
    let items : length (map g qs) ≡ length qs = rw length-map refl in
    let all : length (map f ps ++ map g qs) ≡ length (map f ps) + length (map g qs) =
    length-append (map f ps) (map g qs) in
    let from : n ≡ suc (length (map f ps) + (n - 1 - m)) = omega arith in
    ap (slice_get (h ∷ (map f ps ++ map g qs))) from ∙ behind (map f ps) (map g qs) (n - 1 - m)
    ∙ mapped g qs (n - 1 - m) x (omega arith) e

-- a place in a list that was lengthened by one
pub at-end : {A : Type 0} (xs : List A) (x y : A) (j : ℕ) → slice_get (xs ++ x ∷ []) j ≡ Some y
    → ((j < length xs) × (slice_get xs j ≡ Some y)) ⊎ ((j ≡ length xs) × (x ≡ y))
at-end [] x y zero e = inr (refl, cc)
at-end [] x y (suc zero) e = cc
at-end [] x y (suc (suc j)) e = cc
at-end (z ∷ xs) x y zero e = inl (omega arith, e)
at-end (z ∷ xs) x y (suc j) e = elim (at-end xs x y j e) [ inl h ↦ let less = h.0 in inl (omega arith, h.1) | inr h ↦ inr (ap (λ n. suc n) h.0, h.1) ]
