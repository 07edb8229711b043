-- What is counted and marked, line by line.
use Rattle.std.proofs.Common.{◌≡◌, ℕ, ◌+◌, List, [], ◌∷◌, ◌++◌, take, min, refl, sym, ◌∙◌, ap, arith, slice_get, Some}
use Rattle.vl_tree.specs.Values.{Name, Leaf}
use Rattle.vl_model.specs.Lines.{Line}
use Rattle.vl_model.specs.Rules.{drivers, drives, depending, all_depending}
use Rattle.vl_rules.proofs.Noted.{taken}

drivers-snoc : (leaves : List Leaf) (xs : List Line) (x : Line) (n : Name)
    → drivers leaves (xs ++ x ∷ []) n ≡ drivers leaves xs n + drives leaves n x
drivers-snoc leaves [] x n = omega arith
drivers-snoc leaves (y ∷ xs) x n = let h = drivers-snoc leaves xs x n in omega arith

capped : (a b : ℕ) → min 2 (min 2 a + b) ≡ min 2 (a + b)
capped a b = omega arith

-- one line more
pub drivers-more : (leaves : List Leaf) (xs : List Line) (k : ℕ) (x : Line) (n : Name) → slice_get xs k ≡ Some x
    → min 2 (min 2 (drivers leaves (take k xs) n) + drives leaves n x) ≡ min 2 (drivers leaves (take (k + 1) xs) n)
drivers-more leaves xs k x n e =
    capped (drivers leaves (take k xs) n) (drives leaves n x) ∙ ap (min 2) (sym (drivers-snoc leaves (take k xs) x n))
    ∙ ap (λ ys. min 2 (drivers leaves ys n)) (sym (taken xs k x e))

depending-snoc : (ns : List Name) (xs : List Line) (x : Line)
    → all_depending ns (xs ++ x ∷ []) ≡ depending (all_depending ns xs) x
depending-snoc ns [] x = refl
depending-snoc ns (y ∷ xs) x = depending-snoc (depending ns y) xs x

pub depending-more : (xs : List Line) (k : ℕ) (x : Line) → slice_get xs k ≡ Some x
    → depending (all_depending [] (take k xs)) x ≡ all_depending [] (take (k + 1) xs)
depending-more xs k x e = sym (depending-snoc [] (take k xs) x) ∙ ap (all_depending []) (sym (taken xs k x e))
