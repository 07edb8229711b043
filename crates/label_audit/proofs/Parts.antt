-- A concatenation's parts, one by one.
use Rattle.std.proofs.Common.{◌≡◌, ℕ, ◌+◌, ◌<◌, List, [], ◌∷◌, ◌++◌, length, get_or, drop, sym, ◌∙◌, ap, append_assoc}
use Rattle.std.proofs.lemmas.List.{at_drop_more}
use Rattle.vl_tree.specs.declared.tree.Expr as code
use Rattle.vl_tree.specs.Values.{Name}
use Rattle.vl_tree.specs.Read.{read, reads}
use Rattle.label_model.specs.Labels.{Label}
use Rattle.label_audit.specs.Rows.{row_of, rows_of}

-- one more part
pub part-at : (v : Name → List Label) (xs : List code.Expr) (i : ℕ) (x : code.Expr) → i < length xs → x ≡ get_or xs i x
    → rows_of v (reads (drop i xs)) ≡ rows_of v (reads (drop (i + 1) xs)) ++ row_of v (read x)
part-at v xs i x h is = at_drop_more (λ ys. rows_of v (reads ys)) xs i x h ∙ ap (λ y. rows_of v (reads (y ∷ drop (i + 1) xs))) (sym is)

pub ruleset parts_in = (append_assoc, part-at)
