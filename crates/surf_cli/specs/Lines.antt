-- The numbers of the statuses, and the lines that say how a run ended.
use Rattle.std.specs.Prelude.{◌≡◌, ◌≢◌, ◌≤◌, ◌⊎◌, ℕ, List, [], codes, Option, None}
use Rattle.surf_base.specs.Outside.{Rose, appended, GotPrefix}
use Rattle.noc_desc.specs.Draft.{IsMemory}
use Rattle.desc_check.specs.Line as description
use Rattle.trace_read.specs.Line as trace
use Rattle.vl_tree.specs.Faults as text_fault
use Rattle.surf_cli.specs.TextLine as text
use Rattle.surf_cli.specs.AuditLines.{leak_text}
use Rattle.surf_cli.specs.declared.statuses.Status.{Status}
use Rattle.surf_cli.specs.declared.statuses.Status.TheVariants as status
use Rattle.surf_cli.specs.declared.statuses.End.{End}
use Rattle.surf_cli.specs.declared.statuses.End.TheVariants.{Good, Usage, Refused, Read, Write, Memory, TooLong}
use Rattle.surf_cli.specs.declared.refusals.Refusal.{Refusal}
use Rattle.surf_cli.specs.declared.refusals.Refusal.TheVariants.{Description, NoDomain, Text, Trace, Leak, Size}

-- the number that the process ends with
abbrev pub number_of : Status → ℕ
number_of status.Good = 0
number_of status.Leak = 1
number_of status.Usage = 2
number_of status.Description = 3
number_of status.Trace = 4
number_of status.Text = 5
number_of status.Read = 6
number_of status.Write = 7
number_of status.Memory = 8
number_of status.TooLong = 9
number_of status.Domain = 10
number_of status.Size = 11

-- the status of a refusal
abbrev pub status_of_refusal : Refusal → Status
status_of_refusal (Description fault) = status.Description
status_of_refusal NoDomain = status.Domain
status_of_refusal (Text fault) = status.Text
status_of_refusal (Trace fault) = status.Trace
status_of_refusal (Leak port phase foreign) = status.Leak
status_of_refusal Size = status.Size

-- the line of a refusal
abbrev pub line_of_refusal : Refusal → List ℕ
line_of_refusal (Description fault) = description.line_of fault
line_of_refusal NoDomain = codes "surf: no such domain\n"
line_of_refusal (Text fault) = text.line_of fault
line_of_refusal (Trace fault) = trace.line_of fault
line_of_refusal (Leak port phase foreign) = leak_text port phase foreign
line_of_refusal Size = codes "surf: too many places\n"

-- the refusal carries a fault of what was read, and not that memory ran out
abbrev pub IsOfContents : Refusal → Type 0
IsOfContents (Description fault) = IsMemory fault → ⊥
IsOfContents NoDomain = Unit {0}
IsOfContents (Text fault) = text_fault.IsMemory fault → ⊥
IsOfContents (Trace fault) = trace.place_of fault ≢ None
IsOfContents (Leak port phase foreign) = Unit {0}
IsOfContents Size = Unit {0}

-- the status of an end
abbrev pub status_of : End → Status
status_of Good = status.Good
status_of Usage = status.Usage
status_of (Refused refusal) = status_of_refusal refusal
status_of Read = status.Read
status_of Write = status.Write
status_of Memory = status.Memory
status_of TooLong = status.TooLong

-- the line for the error stream
abbrev pub line_of : End → List ℕ
line_of Good = []
line_of Usage = codes "surf: usage\n"
line_of (Refused refusal) = line_of_refusal refusal
line_of Read = codes "surf: read failed\n"
line_of Write = codes "surf: write failed\n"
line_of Memory = codes "surf: no memory\n"
line_of TooLong = codes "surf: file too long\n"

-- a line is on a sink, whose count of faults didn't fall; where the sink failed, a prefix of it
abbrev pub Says : List ℕ → Option (List ℕ) → Option (List ℕ) → ℕ → ℕ → Type 0
Says line old new faults faults' = (faults ≤ faults')
    × ((new ≡ appended old line) ⊎ (GotPrefix old new line × Rose faults faults'))
