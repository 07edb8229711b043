-- The levels of an expression.
use Rattle.std.proofs.Common.{◌≡◌, ℕ, zero, suc, ◌-◌, ◌<◌, List, [], ◌∷◌, Result, Ok, Err, refl, ap, arith}
use Rattle.vl_tree.specs.Values.{Expr, parts, cat}
use Rattle.vl_tree.specs.Read.{parts_of}
use Rattle.vl_tree.specs.Tokens.{Placed}
use Rattle.vl_tree.specs.Reading.{Reader, left_of, made_of, paired, deeper, none, level_at, expr_at, parts_from}
use Rattle.vl_read.specs.Lists.{more_of}

pub expr_none : (d : ℕ) (ts : List Placed) → d ≡ 0 → expr_at d ts ≡ Err (left_of ts)
unfolding expr_at none
expr_none zero ts h = refl
expr_none (suc d) ts h = absurd (omega arith)

pub expr_some : (d : ℕ) (ts : List Placed) → 0 < d → expr_at d ts ≡ level_at (d - 1) (expr_at (d - 1)) ts
unfolding expr_at
expr_some zero ts h = absurd (omega arith)
expr_some (suc d) ts h = let e : suc d - 1 ≡ d = omega arith in rw e refl

pub deeper_none : {X : Type 0} (d : ℕ) (p : Reader X) (ts : List Placed) → d ≡ 0 → deeper d p ts ≡ Err (left_of ts)
unfolding none
deeper_none zero p ts h = refl
deeper_none (suc d) p ts h = absurd (omega arith)

pub deeper_some : {X : Type 0} (d : ℕ) (p : Reader X) (ts : List Placed) → 0 < d → deeper d p ts ≡ p ts
deeper_some zero p ts h = absurd (omega arith)
deeper_some (suc d) p ts h = refl

parts_same : (es : List Expr) → parts_from es ≡ parts_of es
parts_same [] = refl
parts_same (e ∷ es) = ap (parts e) (parts_same es)

abbrev whole_cat : Expr × (List Expr × Unit {0}) → Expr
whole_cat x = cat (parts x.0 (parts_from x.1.0))

-- a concatenation of its first part and the others
pub cat_done : (a : Expr) (o : Result ((List Expr × Unit {0}) × List Placed) ℕ)
    → made_of whole_cat (paired a o) ≡ made_of (λ y. cat (parts_of y.0)) (more_of (a ∷ []) o)
cat_done a (Ok y) = ap (λ es. Ok (cat (parts a es), y.1)) (parts_same y.0.0)
cat_done a (Err n) = refl
