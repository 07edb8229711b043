-- How many events there are of each kind, and the last line of a report.
use Rattle.std.specs.Prelude.{ℕ, ◌+◌, List, [], ◌∷◌, ◌++◌, count_by, decimal, codes}
use Rattle.noc_model.specs.declared.Event.{Event}
use Rattle.noc_model.specs.Report.{is_take, is_wait, is_drop, is_got}
use Rattle.domain_report.specs.declared.counts.Counts.{Counts}

-- how many of these events there are of each kind
abbrev pub counts_of : List Event → Counts
counts_of es = record {
  takes = count_by (λ e. is_take e.kind) es;
  waits = count_by (λ e. is_wait e.kind) es;
  drops = count_by (λ e. is_drop e.kind) es;
  gots = count_by (λ e. is_got e.kind) es;
}

-- how many there are of all kinds
abbrev pub total : Counts → ℕ
total c = c.takes + c.waits + c.drops + c.gots

-- the line of the counts
abbrev pub end_line : Counts → List ℕ
end_line c =
    codes "end " ++ decimal c.takes ++ 32 ∷ decimal c.waits ++ 32 ∷ decimal c.drops ++ 32 ∷ decimal c.gots ++ 10 ∷ []
