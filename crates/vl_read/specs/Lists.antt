-- Lists that are read one by one.
use Rattle.std.specs.Prelude.{ℕ, List, ◌++◌, Result, Ok, Err}
use Rattle.vl_tree.specs.Tokens.{Placed}

-- what was read before, and what is still read
abbrev pub more_of : {X Y : Type 0} → List X → Result ((List X × Y) × List Placed) ℕ
    → Result ((List X × Y) × List Placed) ℕ
more_of xs (Ok y) = Ok ((xs ++ y.0.0, y.0.1), y.1)
more_of xs (Err n) = Err n
