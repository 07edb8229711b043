-- How far labels may still rise: less after each rise, so that no label rises for ever.
use Rattle.std.specs.Prelude.{◌≡◌, ℕ, ◌+◌, ◌-◌, ◌^◌, ◌<◌, Bool, true, false, List, Option, Some, None}
use Rattle.std.specs.List.{sum_by}
use Rattle.label_audit.specs.declared.bit.Bit.{Bit}
use Rattle.label_audit.specs.declared.bit.Bit.TheVariants.{Known, From}

-- a known bit may rise to each set of domains, and a set to those with a greater number
abbrev pub bit_left : Bit → ℕ
bit_left (Known b) = 2 ^ 16 + 1
bit_left (From mask) = 2 ^ 16 - mask

-- how far the bits of a row may rise together
abbrev pub row_left : List Bit → ℕ
row_left = sum_by bit_left

-- how far those of an instance may
abbrev pub rows_left : List (List Bit) → ℕ
rows_left = sum_by row_left

-- how far those of all instances in a phase may
abbrev pub phase_left : List (List (List Bit)) → ℕ
phase_left = sum_by rows_left

-- with one more for a phase that has still to be handed over
abbrev pub walk_left : List (List (List (List Bit))) → Option ℕ → ℕ
walk_left phases None = sum_by phase_left phases
walk_left phases (Some f) = sum_by phase_left phases + 1

-- the new one is the old one, or less is left where it rose
abbrev pub IsRaised : {X : Type 0} → (X → ℕ) → X → X → Bool → Type 0
IsRaised left old new false = new ≡ old
IsRaised left old new true = left new < left old
