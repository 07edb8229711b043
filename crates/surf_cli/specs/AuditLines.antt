-- The lines of an audit.
use Rattle.std.specs.Prelude.{ℕ, List, [], ◌∷◌, ◌++◌, length, codes}
use Rattle.surf_base.specs.Numbers.{labelled}
use Rattle.noc_model.specs.Plan.{Plan}

-- the line of a text that isolates the plan's domains in each phase of the schedule
abbrev pub isolated_text : Plan → List ℕ
isolated_text p =
    labelled (codes "isolated domains ") (length p.domains) ++ labelled (codes " phases ") (length p.slots) ++ 10 ∷ []

-- the line of a leak: the port that leaks, the phase in which it does, and the domain that it may depend on
abbrev pub leak_text : ℕ → ℕ → ℕ → List ℕ
leak_text port phase foreign =
    labelled (codes "surf: leak port ") port ++ labelled (codes " phase ") phase
    ++ labelled (codes " domain ") foreign ++ 10 ∷ []
