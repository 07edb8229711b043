-- The fields of a head.
use Rattle.std.specs.Prelude.{ℕ, List, ◌∷◌}
use Rattle.trace_read.specs.declared.line.Head.{Head}
use Rattle.trace_read.specs.Text.{fields}

-- its five fields, and those behind them
abbrev pub head_fields : Head → List (List ℕ)
head_fields h = h.cycle.now ∷ h.tile.now ∷ h.domain.now ∷ h.verb.now ∷ h.value.now ∷ fields h.more.now
