-- Bytes added one after another.
use Rattle.std.proofs.Common.{◌≡◌, ℕ, ◌+◌, ◌<◌, List, ◌∷◌, ◌++◌, length, get_or, drop, map, sym, ap, ◌∙◌, append_assoc}
use Rattle.std.proofs.lemmas.List.{drop_more}
use Rattle.vl_tree.specs.Layout.{each_text}

pub then_adds : (o b rest : List ℕ) {o1 o2 : List ℕ} → o1 ≡ o ++ b → o2 ≡ o1 ++ rest → o2 ≡ o ++ (b ++ rest)
then_adds o b rest h k = k ∙ (ap (λ x. x ++ rest) h ∙ append_assoc o b rest)

-- the same where what is written is read from a slice
pub then_puts : {A : Type 0} (f : A → List ℕ) (o : List ℕ) (y : A) (rest : List ℕ) {o1 o2 : List ℕ} {x : A}
    → o1 ≡ o ++ f x → x ≡ y → o2 ≡ o1 ++ rest → o2 ≡ o ++ (f y ++ rest)
then_puts f o y rest h same k = then_adds o (f y) rest (h ∙ ap (λ z. o ++ f z) same) k

-- a turn of a loop that writes the text of each element
pub each_turn : {A B : Type 0} (f : B → List ℕ) (g : A → B) (xs : List A) (i : ℕ) (x : A) (out : List ℕ)
    {next whole : List ℕ} → i < length xs → x ≡ get_or xs i x → next ≡ out ++ f (g x)
    → out ++ each_text f (map g (drop i xs)) ≡ whole → next ++ each_text f (map g (drop (i + 1) xs)) ≡ whole
each_turn f g xs i x out lt is e inv =
    ap (λ o. o ++ each_text f (map g (drop (i + 1) xs))) e ∙ (append_assoc out (f (g x)) (each_text f (map g (drop (i + 1) xs)))
    ∙ (ap (λ ys. out ++ each_text f (map g ys)) (ap (λ y. y ∷ drop (i + 1) xs) is ∙ sym (drop_more xs i x lt)) ∙ inv))
