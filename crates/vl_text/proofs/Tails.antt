-- What is still to be written of a concatenation.
use Rattle.std.proofs.Common.{◌≡◌, ℕ, Bool, true, false, List, [], ◌∷◌, ◌++◌, length, refl, arith}
use Rattle.std.specs.Prelude.{codes}
use Rattle.vl_tree.specs.declared.tree.Expr as code
use Rattle.vl_tree.specs.Values.{Exprs, cat, no_parts, parts}
use Rattle.vl_tree.specs.Read.{reads}
use Rattle.vl_tree.specs.Layout.{expr_text, more_text}
use Rattle.vl_text.specs.Parts.{comma_text}

-- the parts from here on, with the brace that closes them
abbrev pub tail_text : Bool → Exprs → List ℕ
tail_text first no_parts = codes "}"
tail_text first (parts e es) = comma_text first ++ (expr_text e ++ more_text es)

pub tail_begins : (es : List code.Expr) → expr_text (cat (reads es)) ≡ codes "{" ++ tail_text true (reads es)
tail_begins [] = refl
tail_begins (e ∷ es) = refl

pub tail_goes_on : (es : Exprs) → tail_text false es ≡ more_text es
tail_goes_on no_parts = refl
tail_goes_on (parts e es) = refl

pub tail_ends : (first : Bool) (es : List code.Expr) → length es ≡ 0 → tail_text first (reads es) ≡ codes "}"
tail_ends first [] h = refl
tail_ends first (e ∷ es) h = absurd (omega arith)
