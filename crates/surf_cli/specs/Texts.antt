-- Parts of tables.
use Rattle.std.specs.Prelude.{ℕ, List, [], ◌∷◌, ◌++◌, decimal, flat_map}
use Rattle.std.specs.List.{range_with_len}

-- the texts of 0 to n - 1, one after another
abbrev pub texts_below : ℕ → (ℕ → List ℕ) → List ℕ
texts_below n text = flat_map text (range_with_len 0 n)

-- a number in decimal, and a blank
abbrev pub field : ℕ → List ℕ
field n = decimal n ++ 32 ∷ []
