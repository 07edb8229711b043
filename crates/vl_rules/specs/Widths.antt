-- An expression's width, where its widths agree.
use Rattle.std.specs.Prelude.{ℕ, ◌+◌, nat_le, ◌&&◌, Option, Some, None, if◌then◌else◌}
use Rattle.vl_tree.specs.Values.{Expr, Exprs, no_parts, parts}
use Rattle.vl_model.specs.Meaning.{Widths, width_of, agrees}

-- nothing where widths don't agree
abbrev pub width_in : Widths → Expr → Option ℕ
width_in w e = if agrees w e then Some (width_of w e) else None

-- the parts in a row, behind some bits: nothing where widths don't agree or are more than 64
abbrev pub parts_width : Widths → ℕ → Exprs → Option ℕ
parts_width w total no_parts = Some total
parts_width w total (parts e es) = if agrees w e
    && nat_le (total + width_of w e) 64 then parts_width w (total + width_of w e) es else None
