-- The entries of one domain.
use Rattle.std.specs.Prelude.{ℕ, Bool, false, ◌==◌, List, filter, Option, Some, None, slice_get}
use Rattle.noc_model.specs.declared.Host.{Host}
use Rattle.noc_model.specs.Plan.{Plan}
use Rattle.trace_read.specs.declared.entries.Entry.{Entry}
use Rattle.trace_read.specs.declared.entries.Entry.TheVariants.{Send, Hold}

-- the attachment that the entry speaks of
abbrev pub entry_attach : Entry → ℕ
entry_attach (Send cycle attach address words) = attach
entry_attach (Hold cycle attach count) = attach

-- whether the host is of domain d
abbrev pub is_domain : ℕ → Option Host → Bool
is_domain d None = false
is_domain d (Some h) = h.domain == d

-- whether the entry is of an attachment of domain d
abbrev pub is_of : Plan → ℕ → Entry → Bool
is_of p d e = is_domain d (slice_get p.hosts (entry_attach e))

-- the entries of domain d, in order
abbrev pub of_domain : Plan → ℕ → List Entry → List Entry
of_domain p d es = filter (is_of p d) es
