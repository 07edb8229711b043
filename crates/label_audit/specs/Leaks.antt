-- The first leak, from the rows of the top's nets by phase.
use Rattle.std.specs.Prelude.{ℕ, zero, suc, ◌+◌, ◌==◌, not, ◌&&◌, List, [], ◌∷◌, get_or, Option, Some, None, if◌then◌else◌}
use Rattle.vl_tree.specs.declared.tree.Port.{Port}
use Rattle.vl_tree.specs.Values.{Name}
use Rattle.noc_model.specs.declared.Host.{Host}
use Rattle.noc_model.specs.Limits.{most_domains}
use Rattle.label_model.specs.Labels.{Label}
use Rattle.label_model.specs.Verdict.{Leak, first_of, leak_here}
use Rattle.label_audit.specs.Rows.{row_sources, rows_by}
use Rattle.label_audit.specs.Whole.{domain_at}

-- the least domain of the row that is not its own
abbrev pub row_foreign : ℕ → List Label → Option ℕ
row_foreign own r = first_of (λ e. not (e == own) && row_sources r e) 0 most_domains

-- the first leak of the port at position p in the k phases from f on, where its row in each phase is given
abbrev pub leak_in : ℕ → ℕ → (ℕ → List Label) → ℕ → ℕ → Option Leak
leak_in own p row f zero = None
leak_in own p row f (suc k) = leak_here p f (row_foreign own (row f)) (leak_in own p row (f + 1) k)

-- a port's rows, by phase
abbrev pub port_rows : (Name → ℕ) → List (List (List Label)) → Name → ℕ → List Label
port_rows t tops n f = rows_by t (get_or tops f []) n

-- the first leak of a port at position p, if it is an output port, in so many phases. Names of the top stand at t
abbrev pub port_leak_in : (Name → ℕ) → List Host → List (List (List Label)) → ℕ → Port → ℕ → Option Leak
port_leak_in t hosts tops count q p =
    if q.output then leak_in (domain_at hosts p) p (port_rows t tops q.name) 0 count else None

-- a leak, or else a later one
abbrev pub or_leak : Option Leak → Option Leak → Option Leak
or_leak None later = later
or_leak (Some x) later = Some x

-- the first leak of these ports, of which the first is at position p
abbrev pub leaks_in : (Name → ℕ) → List Host → List (List (List Label)) → ℕ → List Port → ℕ → Option Leak
leaks_in t hosts tops count [] p = None
leaks_in t hosts tops count (q ∷ qs) p =
    or_leak (port_leak_in t hosts tops count q p) (leaks_in t hosts tops count qs (p + 1))
