-- What one domain sees of a text, and what a driver may offer.
use Rattle.std.specs.Prelude.{◌≡◌, ℕ, Bool, true, List}
use Rattle.std.specs.List.{AllByRecursion}
use Rattle.vl_tree.specs.declared.tree.Port.{Port}
use Rattle.vl_tree.specs.Values.{Name}
use Rattle.noc_model.specs.Plan.{Plan, hosts}
use Rattle.noc_model.specs.Driver.{Driver}
use Rattle.gen_kit.specs.Ports.{host_ports}
use Rattle.gen_kit.specs.Replayed.{host_of}
use Rattle.surf_replay.specs.Feed.{IsSmallOffer}

-- the numbers are equal at domain k's ports: at its output ports, or at its input ports
abbrev pub AreAlike : Plan → ℕ → Bool → (Name → ℕ) → (Name → ℕ) → Type 0
AreAlike p k output one other = (n : ℕ) → hosts p n k ≡ true
    → AllByRecursion (λ (q : Port). q.output ≡ output → one q.name ≡ other q.name) (host_ports (host_of k n))

-- each address and payload that the driver offers, in whatever state, has 32 bits
abbrev pub OffersFit : Driver → Type 0
OffersFit v = (j t : ℕ) (state : List ℕ) → IsSmallOffer (v.offer j state t)
