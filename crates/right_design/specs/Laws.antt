-- What the laws say.
use Rattle.std.specs.Prelude.{◌≡◌, ℕ, Bool, true, false, List, Some, slice_get}
use Rattle.vl_tree.specs.Values.{Name, Design}
use Rattle.vl_model.specs.Rules.{IsSound as IsSoundDesign}
use Rattle.vl_model.specs.Whole.{Nets, IsRun}
use Rattle.noc_model.specs.declared.Host.{Host}
use Rattle.noc_model.specs.Plan.{Plan}
use Rattle.noc_model.specs.Sound.{IsSound}
use Rattle.noc_model.specs.Run.{start}
use Rattle.noc_model.specs.Driver.{Driver, driven_events, driver_states}
use Rattle.gen_kit.specs.Ports.{top_ports}
use Rattle.gen_kit.specs.Right.{IsRightDesign}
use Rattle.gen_kit.specs.Replayed.{replayed, states_after, at_start}
use Rattle.right_design.specs.Alike.{AreAlike, OffersFit}
use Rattle.right_design.specs.Driven.{driven_nets, inputs_at}

-- Domains don't interfere in a right design: two runs whose inputs agree at the ports of a domain in every cycle have
-- equal outputs at them in every cycle, whatever else the inputs are, and for any two first contents of memories.
abbrev pub DomainsApart : Type 0
DomainsApart = (p : Plan) (d : Design) → IsRightDesign p d → (k : ℕ) (first first_other : Name → Name → ℕ → ℕ)
    (one other : ℕ → Name → ℕ) (values others : ℕ → Nets) → IsRun d first one values → IsRun d first_other other others
    → ((t : ℕ) → AreAlike p k false (one t) (other t))
    → (t : ℕ) → AreAlike p k true (values t).top (others t).top

-- A sound design with a plan's ports that is driven from reset and memories of 0 makes a run: what a driven text is
-- computed to be is one of its runs.
abbrev pub DrivenIsRun : Type 0
DrivenIsRun = (p : Plan) (d : Design) → IsSoundDesign d → d.top.ports ≡ top_ports p → (v : Driver) → OffersFit v
    → (states : ℕ → List ℕ) → IsRun d (λ i m k. 0) (inputs_at p d v states) (driven_nets p d v states)

-- A right design that is driven from reset and memories of 0 has the events of the simulation: each domain's are those
-- of a network that holds this domain alone, under the same driver.
abbrev pub ReplayIsSimulation : Type 0
ReplayIsSimulation = (p : Plan) (d : Design) → IsSound p → IsRightDesign p d → (v : Driver) → OffersFit v
    → (states : ℕ → List ℕ) (cycles k : ℕ)
    → replayed p d v k cycles 0 (at_start d states) ≡ driven_events p k v cycles 0 (start p) states

-- And the attachments of each domain then stand as behind the simulation.
abbrev pub ReplayStands : Type 0
ReplayStands = (p : Plan) (d : Design) → IsSound p → IsRightDesign p d → (v : Driver) → OffersFit v
    → (states : ℕ → List ℕ) (cycles j : ℕ) (h : Host) → slice_get p.hosts j ≡ Some h
    → states_after p d v cycles 0 (at_start d states) j ≡ driver_states p h.domain v cycles 0 (start p) states j
