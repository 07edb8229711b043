-- The line of a domain in a summary.
use Rattle.std.specs.Prelude.{ℕ, ◌-◌, List, [], ◌∷◌, ◌++◌, codes}
use Rattle.surf_base.specs.Numbers.{labelled}
use Rattle.noc_model.specs.declared.Event.{Event}
use Rattle.noc_model.specs.Plan.{Plan, name_of}
use Rattle.domain_report.specs.declared.counts.Counts.{Counts}
use Rattle.domain_report.specs.Counts.{counts_of}

-- the words that were taken and neither counted as dropped nor got: those inside the network, and those whose drop
-- pulse is still to be counted
abbrev pub held : Counts → ℕ
held n = n.takes - n.drops - n.gots

-- a name, and counts with what is held
abbrev pub counts_line : List ℕ → Counts → List ℕ
counts_line name n =
    name ++ labelled (codes " takes ") n.takes ++ labelled (codes " waits ") n.waits
    ++ labelled (codes " drops ") n.drops ++ labelled (codes " gots ") n.gots ++ labelled (codes " held ") (held n)
    ++ 10 ∷ []

-- the line of domain d, of these events of it
unfoldable pub summary_line : Plan → ℕ → List Event → List ℕ
summary_line p d es = counts_line (name_of p d) (counts_of es)
