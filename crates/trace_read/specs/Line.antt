-- The line that is printed for a fault of a trace.
use Rattle.std.specs.Prelude.{ℕ, List, [], ◌∷◌, ◌++◌, codes, Option, Some, None}
use Rattle.surf_base.specs.Numbers.{labelled}
use Rattle.trace_read.specs.declared.fault.TraceFault.{TraceFault}
use Rattle.trace_read.specs.declared.fault.TraceFault.TheVariants.{Syntax, Number, TileRange, DomainUnknown, NotHosted, WordCount, Memory}

-- a fault of a trace by its number and its line; that memory ran out has neither
abbrev pub place_of : TraceFault → Option (ℕ × ℕ)
place_of (Syntax line) = Some (1, line)
place_of (Number line) = Some (2, line)
place_of (TileRange line) = Some (3, line)
place_of (DomainUnknown line) = Some (4, line)
place_of (NotHosted line) = Some (5, line)
place_of (WordCount line) = Some (6, line)
place_of (Memory refused) = None

-- the line of a fault's number and line, and that of memory that ran out
abbrev pub printed : Option (ℕ × ℕ) → List ℕ
printed None = codes "surf: no memory\n"
printed (Some x) = labelled (codes "surf: trace fault ") x.0 ++ labelled (codes " line ") x.1 ++ 10 ∷ []

-- the line of a fault, with its LF
abbrev pub line_of : TraceFault → List ℕ
line_of fault = printed (place_of fault)
