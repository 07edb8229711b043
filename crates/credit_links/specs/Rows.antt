-- The registers of a link, in a row.
use Rattle.std.specs.Prelude.{ℕ, ◌-◌, List, length, Option, None, slice_index_or}
use Rattle.noc_model.specs.declared.LinkFlit.{LinkFlit}

-- register i of the row: a flit enters register 0
abbrev pub place_at : List (Option LinkFlit) → ℕ → Option LinkFlit
place_at row i = slice_index_or row i None

-- the last register, which a flit leaves
abbrev pub last_place : List (Option LinkFlit) → Option LinkFlit
last_place row = place_at row (length row - 1)
