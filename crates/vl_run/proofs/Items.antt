-- Lists that are made item by item.
use Rattle.std.proofs.Common.{◌≡◌, ℕ, ◌+◌, ◌<◌, List, [], ◌∷◌, ◌++◌, length, get_or, drop, refl, sym, ◌∙◌, ap}
use Rattle.std.proofs.lemmas.List.{append_assoc, at_drop_more}

-- one more item: its piece goes behind what was made
pub one-more : {X A : Type 0} (F : List X → List A) (G : List X → List A) (all made next : List A) (piece : X → List A) (xs : List X) (i : ℕ) (x : X) → ((y : X) (ys : List X) → F (y ∷ ys) ≡ piece y ++ G ys)
    → i < length xs → x ≡ get_or xs i x → all ≡ made ++ F (drop i xs) → next ≡ made ++ piece x → all ≡ next ++ G (drop (i + 1) xs)
one-more F G all made next piece xs i x each h is rest more =
    rest ∙ ap (λ z. made ++ z) (at_drop_more F xs i x h ∙ each (get_or xs i x) (drop (i + 1) xs) ∙ ap (λ z. piece z ++ G (drop (i + 1) xs)) (sym is))
    ∙ sym (append_assoc made (piece x) (G (drop (i + 1) xs))) ∙ ap (λ z. z ++ G (drop (i + 1) xs)) (sym more)

pub ruleset items = (append_assoc)
