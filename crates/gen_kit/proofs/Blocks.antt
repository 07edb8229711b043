-- Lists of blocks that are equally long.
use Rattle.std.proofs.Common.{◌≡◌, ℕ, zero, suc, ◌+◌, ◌*◌, ◌<◌, List, [], ◌∷◌, ◌++◌, length, ◌∙◌, ap, arith, slice_get, Some, length-append}
use Rattle.std.specs.List.{flat_map}
use Rattle.vl_model.proofs.Indexed.{front, behind}

module _ {X A : Type 0} (f : X → List A) (m : ℕ) (long : (x : X) → length (f x) ≡ m) where
  pub length-blocks : (xs : List X) → length (flat_map f xs) ≡ length xs * m
  length-blocks [] = omega arith
  length-blocks (x ∷ xs) =
      let one = long x in
      let rest = length-blocks xs in
      let all : length (f x ++ flat_map f xs) ≡ length (f x) + length (flat_map f xs) =
      length-append (f x) (flat_map f xs) in
      let more : suc (length xs) * m ≡ m + length xs * m = grind arith in
      omega arith

  -- place j of block i
  pub in-block : (xs : List X) (i j : ℕ) (x : X) → slice_get xs i ≡ Some x → j < m
      → slice_get (flat_map f xs) (i * m + j) ≡ slice_get (f x) j
  in-block [] zero j x e h = cc
  in-block [] (suc i) j x e h = cc
  in-block (y ∷ xs) zero j x e h =
      let same : y ≡ x = cc in
      let first : zero * m + j ≡ j = grind arith in
      let one = long y in
      ap (slice_get (f y ++ flat_map f xs)) first ∙ front (f y) (flat_map f xs) j (omega arith)
      ∙ ap (λ z. slice_get (f z) j) same
  in-block (y ∷ xs) (suc i) j x e h =
      let one = long y in
      let more : suc i * m ≡ m + i * m = grind arith in
      let next : suc i * m + j ≡ length (f y) + (i * m + j) = omega arith in
      ap (slice_get (f y ++ flat_map f xs)) next ∙ behind (f y) (flat_map f xs) (i * m + j) ∙ in-block xs i j x e h
