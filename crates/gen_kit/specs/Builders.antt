-- What a built expression is: its value in every valuation, its width, and its depth.
use Rattle.std.specs.Prelude.{◌≡◌, ℕ, ◌+◌, nat_lt, if◌then◌else◌}
use Rattle.vl_tree.specs.Values.{Expr, Exprs, net, number, bit, part, word, not, two, choose, cat, no_parts, parts}
use Rattle.vl_model.specs.Meaning.{Widths, Values, width_of, value_of}

-- the greater of two numbers
abbrev pub greater : ℕ → ℕ → ℕ
greater a b = if nat_lt a b then b else a

-- how many levels an expression has: a name or a constant has one, and all else one more than its deepest part
abbrev mutual
  pub depth_of : Expr → ℕ
  depth_of (net n) = 1
  depth_of (number k) = 1
  depth_of (bit n i) = 1
  depth_of (part n h l) = 1
  depth_of (word n e) = depth_of e + 1
  depth_of (not e) = depth_of e + 1
  depth_of (two op a b) = greater (depth_of a) (depth_of b) + 1
  depth_of (choose c a b) = greater (depth_of c) (greater (depth_of a) (depth_of b)) + 1
  depth_of (cat es) = depths_of es + 1

  pub depths_of : Exprs → ℕ
  depths_of no_parts = 0
  depths_of (parts e es) = greater (depth_of e) (depths_of es)

-- in every valuation, whatever the names' widths, the expression has this value
abbrev pub HasValue : Expr → (Widths → Values → ℕ) → Type 0
HasValue e f = (w : Widths) (v : Values) → value_of w v e ≡ f w v

-- whatever the names' widths, the expression has this width
abbrev pub HasWidth : Expr → (Widths → ℕ) → Type 0
HasWidth e f = (w : Widths) → width_of w e ≡ f w
