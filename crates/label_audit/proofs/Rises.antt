-- Less is left after each rise.
use Rattle.std.proofs.Common.{◌≡◌, ◌≢◌, ℕ, zero, suc, ◌+◌, ◌-◌, ◌^◌, ◌<◌, Bool, true, false, List, [], ◌∷◌, ◌++◌, length, take, refl, sym, ◌∙◌, ap, subst, arith}
use Rattle.std.specs.Prelude.{◌||◌, get_or, slice_set, bit_or}
use Rattle.std.specs.List.{sum_by}
use Rattle.std.proofs.lemmas.Nat.{le_or_l}
use Rattle.std.proofs.lemmas.List.{take_more}
use Rattle.std.proofs.lemmas.List.Sums.{sum_by-cons, sum_by_push}
use Rattle.label_audit.specs.declared.bit.Bit.{Bit}
use Rattle.label_audit.specs.declared.bit.Bit.TheVariants.{Known, From}
use Rattle.label_audit.specs.Bits.{mask_in}
use Rattle.label_audit.specs.Rises.{bit_left, IsRaised}

-- more domains have a greater number
pub more-domains : (x : Bit) (m n : ℕ) → m ≡ mask_in x → m < 2 ^ 16 → From (bit_or m n) ≢ x → bit_left (From (bit_or m n)) < bit_left x
more-domains (Known b) m n is lt other = omega arith
more-domains (From k) m n is lt other =
    let above = le_or_l m n in
    let apart : bit_or m n ≢ k = λ same. other (ap From same) in
    grind (arith, above, apart, lt, is)

-- one more item
pub push-raised : {X : Type 0} (left : X → ℕ) (old new : List X) (x y : X) (a b : Bool) → IsRaised (sum_by left) old new a → IsRaised left x y b
    → IsRaised (sum_by left) (old ++ x ∷ []) (new ++ y ∷ []) (a || b)
push-raised left old new x y false false r s = ap (λ z. z ++ y ∷ []) r ∙ ap (λ z. old ++ z ∷ []) s
push-raised left old new x y false true r s =
    let one = sum_by_push left old x in let two = sum_by_push left new y in let same = ap (sum_by left) r in omega (arith, one, two, same, s)
push-raised left old new x y true false r s =
    let one = sum_by_push left old x in let two = sum_by_push left new y in let same = ap left s in omega (arith, one, two, same, r)
push-raised left old new x y true true r s =
    let one = sum_by_push left old x in let two = sum_by_push left new y in omega (arith, one, two, r, s)

-- one more item of a list that is gone over
pub grow-raised : {X : Type 0} (left : X → ℕ) (old new all : List X) (i : ℕ) (x y : X) (a b c : Bool) → i < length old → x ≡ get_or old i x → all ≡ new ++ y ∷ [] → c ≡ (a || b)
    → IsRaised (sum_by left) (take i old) new a → IsRaised left x y b → IsRaised (sum_by left) (take (i + 1) old) all c
grow-raised left old new all i x y a b c lt at e both r s =
    let more : take (i + 1) old ≡ take i old ++ x ∷ [] = take_more old i x lt ∙ ap (λ z. take i old ++ z ∷ []) (sym at) in
    subst (λ z. IsRaised (sum_by left) z all c) (sym more)
    (subst (λ z. IsRaised (sum_by left) (take i old ++ x ∷ []) z c) (sym e)
    (subst (IsRaised (sum_by left) (take i old ++ x ∷ []) (new ++ y ∷ [])) (sym both) (push-raised left (take i old) new x y a b r s)))

-- one item of a list
pub set-less : {X : Type 0} (left : X → ℕ) (xs : List X) (i : ℕ) (y other : X) → i < length xs → left y < left (get_or xs i other) → sum_by left (slice_set xs i y) < sum_by left xs
set-less left [] i y other lt less = absurd (omega (arith, lt))
set-less left (x ∷ xs) zero y other lt less =
    let one = sum_by-cons left x xs in let two = sum_by-cons left y xs in omega (arith, one, two, less)
set-less left (x ∷ xs) (suc i) y other lt less =
    let one = sum_by-cons left x xs in
    let two = sum_by-cons left x (slice_set xs i y) in
    let later = set-less left xs i y other (omega (arith, lt)) less in
    omega (arith, one, two, later)
