-- Tests on the front of a list.
use Rattle.std.proofs.Common.{◌≡◌, ℕ, ◌-◌, ◌<◌, true, false, ltb, List, [], ◌∷◌, length, get_or, drop, refl, arith}
use Rattle.std.specs.Prelude.{◌&&◌}
use Rattle.std.proofs.lemmas.Bool.{lt-ltb}
use Rattle.vl_tree.specs.declared.tree.Expr.{Expr}
use Rattle.vl_tree.specs.Values.{cat}
use Rattle.vl_tree.specs.Read.{reads}
use Rattle.vl_tree.specs.Tokens.{is_letter, is_name, is_name_rest}
use Rattle.vl_tree.specs.Plain.{plain_expr, plain_exprs}

pub name_parts : (bs : List ℕ) → 0 < length bs → is_name bs ≡ (is_letter (get_or bs 0 0) && is_name_rest (drop 1 bs))
name_parts [] h = absurd (omega arith)
name_parts (b ∷ bs) h = refl

pub cat_parts : (d : ℕ) (es : List Expr) → 0 < length es
    → plain_expr d (cat (reads es)) ≡ (ltb 0 d && plain_exprs (d - 1) (reads es))
cat_parts d [] h = absurd (omega arith)
cat_parts d (e ∷ es) h = grind arith

pub cat_none : (d : ℕ) (es : List Expr) → length es ≡ 0 → plain_expr d (cat (reads es)) ≡ false
cat_none d [] h = refl
cat_none d (e ∷ es) h = absurd (omega arith)

pub cat_behind : (d : ℕ) (es : List Expr) → 0 < length es → 0 < d
    → plain_expr d (cat (reads es)) ≡ plain_exprs (d - 1) (reads es)
cat_behind d [] h k = absurd (omega arith)
cat_behind d (e ∷ es) h k = let t : ltb 0 d ≡ true = lt-ltb 0 d k in rw t refl
