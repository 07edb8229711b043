-- Which channels may send, and what the input ports of a tile ask for.
use Rattle.std.specs.Prelude.{◌≡◌, ◌≢◌, ℕ, ◌<◌, ◌&&◌, nat_lt, Bool, true, false, List, length, slice_index_or, Option, Some, None, option_and_then, if◌then◌else◌, ℤ, pos}
use Rattle.noc_model.specs.declared.Grant.{Grant}
use Rattle.noc_model.specs.Plan.{Plan, ports, in_channels}
use Rattle.noc_model.specs.Inputs.{place, input_port, input_channel}
use Rattle.noc_model.specs.Pick.{pick}
use Rattle.noc_model.specs.Tile.{Tile, TileIn}
use Rattle.noc_model.specs.Step.{is_ready, grant_at}
use Rattle.noc_model.specs.SoundState.{HasOutput}
use Rattle.route_stage.specs.Routed.{stage_at}
use Rattle.vc_partition.specs.Lanes.{lane}
use Rattle.slot_switch.specs.Switch.{Switch, ask_at, turn_at, better_ask, with_ask}
use Rattle.wave_sched.specs.Wheels.{Stands}
use Rattle.router_core.specs.Attachments.{told_at, outside}
use Rattle.router_core.specs.Parts.{Parts}
use Rattle.router_core.specs.Sizes.{HasSwitch}
use Rattle.router_core.specs.Shown.{Shows}

-- the packets of domain d go by outputs that are there
abbrev pub HaveOutputs : Plan → ℕ → Parts → Type 0
HaveOutputs p d r = (k : ℕ) → HasOutput p d r.tile (stage_at r.stages d k)

-- what the input at place k asks for: where it has a flit to send, and its output takes one
abbrev pub requested : Plan → ℕ → ℕ → ℤ → Tile → TileIn → ℕ → Option Grant
requested p d n t s i k =
    let port : ℕ = input_port p d k in
    let c : ℕ = input_channel p d k in
    if nat_lt c (in_channels p d port) && is_ready p d n t s i port c then grant_at c (s.stage port c) else None

-- the switch where an input port asks for this too, if it is anything
abbrev pub asking : Switch → ℕ → ℕ → Option Grant → Switch
asking x d port None = x
asking x d port (Some g) = with_ask x d port (Some (better_ask (turn_at x d port) (ask_at x d port) g))

-- what an input port asks for where its inputs below place k are known
abbrev pub asked_below : ℕ → Plan → ℕ → ℕ → ℤ → Tile → TileIn → ℕ → Option Grant
asked_below k p d n t s i port =
    option_and_then (λ c. grant_at c (s.stage port c))
    (pick (in_channels p d port) (λ c. nat_lt (place p d port c) k && is_ready p d n t s i port c) (s.turn port))

-- from the router r on, the switch knows the inputs of domain d below place k
pub record AsksBelow (k : ℕ) (p : Plan) (d : ℕ) (r : Parts) (x : Switch) : Type 0 where
  pub has : HasSwitch p x
  pub turns : x.turns ≡ r.switch.turns
  pub switches : x.switches ≡ r.switch.switches
  pub others : (e : ℕ) → e ≢ d → lane x.asks e ≡ lane r.switch.asks e
  pub asks : (s : Tile) (t port : ℕ) → Shows r p d s → Stands r.wheel p r.tile t → port < ports p
      → ask_at x d port ≡ asked_below k p d r.tile (pos t) s (outside (told_at r.told d)) port

-- the input ports of domain d that are below n ask for outputs of which the list has a mark, true or false
abbrev pub AsksWithin : ℕ → Switch → ℕ → List Bool → Type 0
AsksWithin n x d outputs = (port : ℕ) (g : Grant) → port < n → ask_at x d port ≡ Some g → g.out < length outputs
    → slice_index_or outputs g.out false ≡ true
