-- Some part passes.
use Rattle.std.proofs.Common.{◌≡◌, ℕ, zero, suc, ◌+◌, ◌<◌, Bool, List, [], ◌∷◌, length, get_or, drop, refl, ◌∙◌, ap, arith, add-one}
use Rattle.std.specs.Prelude.{◌||◌}
use Rattle.std.specs.List.{list_any}
use Rattle.std.proofs.lemmas.List.Folds.{list_any-append}
use Rattle.vl_tree.specs.declared.tree.Expr as code
use Rattle.vl_tree.specs.Read.{read, reads}
use Rattle.vl_model.specs.Meaning.{Use, nets_of, parts_nets, uses_of, parts_uses}

drop-more : (y : code.Expr) (xs : List code.Expr) (i : ℕ) → drop (i + 1) xs ≡ drop (suc i + 1) (y ∷ xs)
drop-more y xs i = rw (add-one (suc i), add-one i) refl

-- the nets of the parts from the i-th on
pub nets-at : (p : List ℕ → Bool) (xs : List code.Expr) (i : ℕ) (x : code.Expr) → i < length xs → x ≡ get_or xs i x
    → list_any p (parts_nets (reads (drop i xs))) ≡ (list_any p (nets_of (read x)) || list_any p (parts_nets (reads (drop (i + 1) xs))))
nets-at p [] i x h e = absurd (omega arith)
nets-at p (y ∷ xs) zero x h e = rw e (list_any-append p (nets_of (read y)) (parts_nets (reads xs)))
nets-at p (y ∷ xs) (suc i) x h e =
    nets-at p xs i x (omega arith) e
    ∙ ap (λ z. list_any p (nets_of (read x)) || list_any p (parts_nets (reads z))) (drop-more y xs i)

-- the memories that the parts from the i-th on read
pub uses-at : (p : Use → Bool) (xs : List code.Expr) (i : ℕ) (x : code.Expr) → i < length xs → x ≡ get_or xs i x
    → list_any p (parts_uses (reads (drop i xs))) ≡ (list_any p (uses_of (read x)) || list_any p (parts_uses (reads (drop (i + 1) xs))))
uses-at p [] i x h e = absurd (omega arith)
uses-at p (y ∷ xs) zero x h e = rw e (list_any-append p (uses_of (read y)) (parts_uses (reads xs)))
uses-at p (y ∷ xs) (suc i) x h e =
    uses-at p xs i x (omega arith) e
    ∙ ap (λ z. list_any p (uses_of (read x)) || list_any p (parts_uses (reads z))) (drop-more y xs i)

pub ruleset anys = (list_any-append, nets-at, uses-at)
