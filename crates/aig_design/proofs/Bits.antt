-- Lists of bits, behind one another.
use Rattle.std.proofs.Common.{◌≡◌, ℕ, ◌+◌, Bool, List, [], ◌∷◌, ◌++◌, length, ◌∙◌, ap, subst, arith}
use Rattle.aig_model.specs.FormOf.{AreBits}

-- the bits of both
pub bits-both : (xs bs : List Bool) (f : ℕ → Bool) (i : ℕ) → AreBits (xs ++ bs) f i → AreBits xs f i × AreBits bs f (i + length xs)
bits-both [] bs f i h = let e : i ≡ i + 0 = omega arith in (tt, subst (AreBits bs f) e h)
bits-both (a ∷ xs) bs f i h =
    let r = bits-both xs bs f (i + 1) h.1 in
    let e : i + 1 + length xs ≡ i + length (a ∷ xs) = omega arith in
    ((h.0, r.0), subst (AreBits bs f) e r.1)

pub bits-join : (xs bs : List Bool) (f : ℕ → Bool) (i : ℕ) → AreBits xs f i → AreBits bs f (i + length xs) → AreBits (xs ++ bs) f i
bits-join [] bs f i a b = let e : i + 0 ≡ i = omega arith in subst (AreBits bs f) e b
bits-join (a ∷ xs) bs f i h b =
    let e : i + length (a ∷ xs) ≡ i + 1 + length xs = omega arith in
    (h.0, bits-join xs bs f (i + 1) h.1 (subst (AreBits bs f) e b))

-- the bits of another function that has them elsewhere
pub bits-moved : (bs : List Bool) (f g : ℕ → Bool) (i j : ℕ) → ((k : ℕ) → g (j + k) ≡ f (i + k)) → AreBits bs f i → AreBits bs g j
bits-moved [] f g i j same h = tt
bits-moved (b ∷ bs) f g i j same h =
    let none-i : i + 0 ≡ i = omega arith in
    let none-j : j ≡ j + 0 = omega arith in
    (ap g none-j ∙ same 0 ∙ ap f none-i ∙ h.0, bits-moved bs f g (i + 1) (j + 1) next h.1)
  where
    next : (k : ℕ) → g (j + 1 + k) ≡ f (i + 1 + k)
    next k =
        let up-j : j + 1 + k ≡ j + (1 + k) = omega arith in
        let up-i : i + (1 + k) ≡ i + 1 + k = omega arith in
        ap g up-j ∙ same (1 + k) ∙ ap f up-i

-- those behind the first, from the next variable on
pub bits-behind : (xs bs : List Bool) (v : ℕ → Bool) (first next : ℕ) → next ≡ first + length xs → AreBits (xs ++ bs) (λ j. v (first + j)) 0 → AreBits bs (λ j. v (next + j)) 0
bits-behind xs bs v first next is h = bits-moved bs (λ j. v (first + j)) (λ j. v (next + j)) (0 + length xs) 0 same (bits-both xs bs (λ j. v (first + j)) 0 h).1
  where
    same : (k : ℕ) → v (next + (0 + k)) ≡ v (first + (0 + length xs + k))
    same k = let e : next + (0 + k) ≡ first + (0 + length xs + k) = omega (arith, is) in ap v e
