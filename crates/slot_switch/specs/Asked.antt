-- What an input port asks for, as a choice from the set of its channels that may send.
use Rattle.std.specs.Prelude.{◌≡◌, ℕ, ◌<◌, Bool, true, Option, Some, None, ℤ}
use Rattle.noc_model.specs.declared.Grant.{Grant}
use Rattle.noc_model.specs.Plan.{Plan, ports}
use Rattle.noc_model.specs.Tile.{Tile, TileIn}
use Rattle.noc_model.specs.Step.{asked}
use Rattle.slot_switch.specs.Switch.{Switch, ask_at, switch_at}

-- there is a grant, and it is of channel k
abbrev pub IsGrantOf : ℕ → Option Grant → Type 0
IsGrantOf k None = ⊥
IsGrantOf k (Some g) = g.channel ≡ k

-- each channel of the set has a grant to ask for
abbrev pub HaveGrants : ℕ → (ℕ → Bool) → (ℕ → Option Grant) → Type 0
HaveGrants n set grants = (k : ℕ) → k < n → set k ≡ true → IsGrantOf k (grants k)

-- the switch asks what the definition's input ports ask in domain d, and has its outputs' pointers
pub record AsksAs (x : Switch) (p : Plan) (d n : ℕ) (t : ℤ) (s : Tile) (i : TileIn) : Type 0 where
  pub port_count : x.ports ≡ ports p
  pub asks : (port : ℕ) → port < ports p → ask_at x d port ≡ asked p d n t s i port
  pub switches : (o : ℕ) → o < ports p → switch_at x d o ≡ s.switch o
