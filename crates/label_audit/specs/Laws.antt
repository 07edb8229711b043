-- Laws of what an audit says.
use Rattle.std.specs.Prelude.{◌<◌, ℕ, length}
use Rattle.vl_tree.specs.Values.{Design}
use Rattle.vl_model.specs.Rules.{IsSound}
use Rattle.noc_model.specs.Plan.{Plan}
use Rattle.label_model.specs.Lawful.{IsClean, Isolates}
use Rattle.label_audit.specs.declared.leaks.Verdict.TheVariants.{Clean, Leak}
use Rattle.label_audit.specs.Audited.{port_domain, IsAudit}

-- A sound design that is clean by its audit for a plan isolates every domain
abbrev pub CleanTextIsolates : Type 0
CleanTextIsolates = (p : Plan) (d : Design) → IsSound d → 0 < length p.slots → IsAudit p d Clean
    → (e : ℕ) → Isolates d (port_domain p) e

-- A sound design with a leak isn't clean under the least labelling
abbrev pub LeakIsUnclean : Type 0
LeakIsUnclean = (p : Plan) (d : Design) → IsSound d → (port phase foreign : ℕ) → IsAudit p d (Leak port phase foreign)
    → IsClean d (port_domain p) (length p.slots) → ⊥
