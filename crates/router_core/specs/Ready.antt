-- What a router needs to be ready for its next cycle, and how it begins one.
use Rattle.std.specs.Prelude.{◌≡◌, ◌≢◌, ℕ, ◌<◌, true, false, List, length, Option, None, pos}
use Rattle.noc_model.specs.Plan.{Plan, ports, link_channels}
use Rattle.noc_model.specs.Tile.{Tile}
use Rattle.noc_model.specs.Step.{front}
use Rattle.noc_model.specs.Holder.{IsHolder, IsHeldTile}
use Rattle.noc_model.specs.SoundState.{HasOutput, IsSoundTile}
use Rattle.vc_partition.specs.Lanes.{lane}
use Rattle.route_stage.specs.Routed.{GoesToTile}
use Rattle.slot_switch.specs.Switch.{Switch, ask_at}
use Rattle.vc_alloc.specs.Allocator.{best_at}
use Rattle.wave_sched.specs.Wheels.{Stands}
use Rattle.router_core.specs.Pulses.{pulse_at, ArePulses}
use Rattle.router_core.specs.Parts.{Parts}
use Rattle.router_core.specs.Sizes.{HasSwitch, HasPorts, IsMade}
use Rattle.router_core.specs.Shown.{Shows}

-- the input ports of domain d ask for nothing any more, and have no pulse
pub record IsCleared (p : Plan) (d : ℕ) (x y : Switch) (u v : List (List (Option ℕ))) : Type 0 where
  pub has : HasSwitch p y
  pub pulses : HasPorts p v
  pub turns : y.turns ≡ x.turns
  pub switches : y.switches ≡ x.switches
  pub asked : (port : ℕ) → ask_at y d port ≡ None
  pub left : (port : ℕ) → pulse_at v d port ≡ None
  pub others : (e : ℕ) → e ≢ d → lane v e ≡ lane u e
  pub kept : ArePulses p u → ArePulses p v

-- the tile without its pulses
abbrev pub silent : Tile → Tile
silent s = record s { pulse = λ port c. false }

-- the router shows in some cycle a tile of domain d whose packets go to tiles and by outputs that there are, and hold
-- the channels that they go out by
pub record IsReady (p : Plan) (d : ℕ) (r : Parts) : Type 0 where
  pub cycle : ℕ
  pub stands : Stands r.wheel p r.tile cycle
  pub tile : Tile
  pub shows : Shows r p d tile
  pub fronts : (port c : ℕ) → port < ports p → c < link_channels p d → GoesToTile p (front (tile.queue port c))
  pub outs : (port c : ℕ) → port < ports p → c < link_channels p d → HasOutput p d r.tile (tile.stage port c)
  pub held : (o w port c : ℕ) → IsHolder p d tile o w port c → tile.held o w ≡ true

-- the router shows in some cycle a sound tile of domain d, as those of the network's runs are
pub record IsLawful (p : Plan) (d : ℕ) (r : Parts) : Type 0 where
  pub cycle : ℕ
  pub stands : Stands r.wheel p r.tile cycle
  pub tile : Tile
  pub shows : Shows r p d tile
  pub sound : IsSoundTile p d r.tile (pos cycle) tile
  pub holders : IsHeldTile p d r.tile tile

-- so it does of every domain, and between two cycles no output knows of a head that waits for it
pub record AreLawful (p : Plan) (r : Parts) : Type 0 where
  pub made : IsMade r p
  pub quiet : (o : ℕ) → best_at r.allocator o ≡ None
  pub domains : (d : ℕ) → d < length p.domains → IsLawful p d r
