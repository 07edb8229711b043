-- What is kept for each attachment.
use Rattle.std.specs.Prelude.{◌≡◌, ℕ, zero, suc, slice_index, ◌+◌, ◌<◌, ◌++◌, max, List, [], ◌∷◌, length, Option, Some, None, slice_get}
use Rattle.std.specs.List.Sorted.{IsNonDecreasingBy}
use Rattle.noc_model.specs.Driver.{Driver}
use Rattle.trace_read.specs.declared.entries.Entry.{Entry}
use Rattle.tile_drive.specs.declared.scripts.Due.{Due}
use Rattle.tile_drive.specs.declared.scripts.Span.{Span}
use Rattle.tile_drive.specs.declared.scripts.Script.{Script}
use Rattle.tile_drive.specs.TraceDriver.{due_of, spans_of, at_attach, is_deaf, driver_of}

-- the words of a script, and none where there is no script
abbrev pub due_of_script : Option Script → List Due
due_of_script None = []
due_of_script (Some script) = script.due.items

-- the spans of a script, and none where there is no script
abbrev pub spans_of_script : Option Script → List Span
spans_of_script None = []
spans_of_script (Some script) = script.spans.items

-- the words that are kept for attachment j
abbrev pub due_at : List Script → ℕ → List Due
due_at scripts j = due_of_script (slice_get scripts j)

-- the spans that are kept for attachment j
abbrev pub spans_at : List Script → ℕ → List Span
spans_at scripts j = spans_of_script (slice_get scripts j)

-- the greatest end of the spans up to each, or m where that is greater
abbrev pub ends_from : ℕ → List Span → List ℕ
ends_from m [] = []
ends_from m (span ∷ more) = max m (span.cycle + span.count) ∷ ends_from (max m (span.cycle + span.count)) more

-- the greatest end of the first n spans, or m
abbrev pub end_at : ℕ → List ℕ → ℕ → ℕ
end_at m ends zero = m
end_at m ends (suc n) = slice_index ends n

-- the spans are by their cycles, and the ends are theirs
pub record AreSettled (spans : List Span) (ends : List ℕ) : Type 0 where
  pub sorted : IsNonDecreasingBy (λ (span : Span). span.cycle) spans
  pub ends_are : ends ≡ ends_from 0 spans

-- the ends that a script keeps, and none where there is no script
abbrev pub ends_of_script : Option Script → List ℕ
ends_of_script None = []
ends_of_script (Some script) = script.ends.items

-- the spans of each script are settled
abbrev pub AreAllSettled : List Script → Type 0
AreAllSettled scripts = (j : ℕ) → AreSettled (spans_at scripts j) (ends_of_script (slice_get scripts j))

-- the driver that the scripts are
abbrev pub scripts_driver : List Script → Driver
scripts_driver scripts = driver_of (due_at scripts) (λ j t. is_deaf (spans_at scripts j) t)

-- what the entry has was added to its attachment's script
pub record AddsEntry (old new : List Script) (e : Entry) : Type 0 where
  pub count : length new ≡ length old
  pub due : (j : ℕ) → j < length old → due_at new j ≡ due_at old j ++ at_attach j e (due_of e)
  pub spans : (j : ℕ) → j < length old → spans_at new j ≡ spans_at old j ++ at_attach j e (spans_of e)
