-- Places of names: that of the line which declares the name.
use Rattle.std.specs.Prelude.{◌≡◌, ℕ, ◌<◌, List, length, Some, slice_get}
use Rattle.vl_tree.specs.Values.{Name}
use Rattle.vl_model.specs.Lines.{Line, Declared, declared, lookup}

-- each declared name stands at its line, and no two stand together
pub record ArePlaces (lines : List Line) (s : Name → ℕ) : Type 0 where
  pub below : (n : Name) (x : Declared) → lookup lines n ≡ Some x → s n < length lines
  pub apart : (n m : Name) (x y : Declared) → lookup lines n ≡ Some x → lookup lines m ≡ Some y → s n ≡ s m → n ≡ m
  pub line : (n : Name) (x : Declared) → lookup lines n ≡ Some x
      → (y : Line) × (slice_get lines (s n) ≡ Some y) × (declared y ≡ Some x)
