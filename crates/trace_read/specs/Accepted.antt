-- The entries of a trace for a plan, or its first fault.
use Rattle.std.specs.Prelude.{ℕ, suc, List, [], ◌∷◌, Option, Some, None}
use Rattle.std.specs.Str.Lines.{lines}
use Rattle.noc_model.specs.Plan.{Plan}
use Rattle.trace_read.specs.declared.entries.Entry.{Entry}
use Rattle.trace_read.specs.declared.fault.TraceFault.{TraceFault}
use Rattle.trace_read.specs.declared.fault.TraceFault.TheVariants.{Syntax, Number, TileRange, DomainUnknown, NotHosted, WordCount, Memory}
use Rattle.trace_read.specs.Entries.{entries}
use Rattle.trace_read.specs.Faults.{line_fault}

-- the first of two, where there is one
abbrev pub or_else : Option TraceFault → Option TraceFault → Option TraceFault
or_else None other = other
or_else (Some fault) other = Some fault

-- the first fault of the first line that is faulty, where the first line has the number n
abbrev pub fault_from : Plan → ℕ → List (List ℕ) → Option TraceFault
fault_from p n [] = None
fault_from p n (line ∷ more) = or_else (line_fault p n line) (fault_from p (suc n) more)

-- the first fault of a trace, whose lines count from 1
unfoldable pub first_fault : Plan → List ℕ → Option TraceFault
first_fault p bytes = fault_from p 1 (lines bytes)

-- the entries, unless there is a fault
abbrev pub unless : Option TraceFault → List Entry → Option (List Entry)
unless None es = Some es
unless (Some fault) es = None

-- the entries of a trace without a fault
unfoldable pub trace_of : Plan → List ℕ → Option (List Entry)
trace_of p bytes = unless (first_fault p bytes) (entries p (lines bytes))

-- memory ran out, or P holds
abbrev pub MemoryOr : TraceFault → Type 0 → Type 0
MemoryOr (Memory refused) P = Unit {0}
MemoryOr (Syntax n) P = P
MemoryOr (Number n) P = P
MemoryOr (TileRange n) P = P
MemoryOr (DomainUnknown n) P = P
MemoryOr (NotHosted n) P = P
MemoryOr (WordCount n) P = P
