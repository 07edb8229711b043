-- What the switch reads of a tile, and what it keeps, beside the tile of the definitions.
use Rattle.std.specs.Prelude.{◌≡◌, ◌≢◌, ℕ, ◌<◌, Bool, ◌||◌, List, length, Option, Some, None, is_none, if◌then◌else◌, slice_get, ℤ, pos}
use Rattle.noc_model.specs.declared.Flit.{Flit}
use Rattle.noc_model.specs.declared.Grant.{Grant}
use Rattle.noc_model.specs.declared.Stage.{Stage}
use Rattle.noc_model.specs.declared.Stage.TheVariants.{Active}
use Rattle.noc_model.specs.Plan.{Plan, ports, link_channels, in_channels}
use Rattle.noc_model.specs.Inputs.{place, input_count}
use Rattle.noc_model.specs.Tile.{Tile, TileIn}
use Rattle.noc_model.specs.Step.{front, is_ready, grant_at, asked, grant, tile_step}
use Rattle.noc_model.specs.SoundState.{HasOutput}
use Rattle.vc_partition.specs.Lanes.{lane}
use Rattle.wave_sched.specs.declared.wheels.Wheel.{Wheel}
use Rattle.wave_sched.specs.Wheels.{Stands}
use Rattle.slot_switch.specs.Switch.{Switch, ask_at, turn_at, switch_at}

module _ {T : Type 0} where
  -- the lanes have a place for each input of domain d, or for each of its output channels
  abbrev pub HasInputs : Plan → ℕ → List (List T) → Type 0
  HasInputs p d v = (d < length v) × (length (lane v d) ≡ input_count p d)

  -- the lanes have a place for each port of domain d
  abbrev pub HasPorts : Plan → ℕ → List (List T) → Type 0
  HasPorts p d v = (d < length v) × (length (lane v d) ≡ ports p)

-- the packets of domain d go by ports and channels that a plan has
abbrev pub AreRouted : Plan → ℕ → List (List Stage) → Type 0
AreRouted p d stages = (k o w : ℕ) → slice_get (lane stages d) k ≡ Some (Active o w)
    → (o < ports p) × (w < link_channels p d)

-- the input channels of domain d are those of the tile s
pub record AreChannels (p : Plan) (d n : ℕ) (s : Tile) (stages : List (List Stage))
    (fronts : List (List (Option Flit))) : Type 0 where
  pub stage : (port c : ℕ) → port < ports p → c < in_channels p d port
      → slice_get (lane stages d) (place p d port c) ≡ Some (s.stage port c)
  pub flit : (port c : ℕ) → port < ports p → c < in_channels p d port
      → slice_get (lane fronts d) (place p d port c) ≡ Some (front (s.queue port c))
  pub output : (port c : ℕ) → port < ports p → c < in_channels p d port → HasOutput p d n (s.stage port c)

-- the credits of its outputs are those of the tile, and the room says that the ejection place is empty or heard
pub record AreOutputs (p : Plan) (d : ℕ) (s : Tile) (i : TileIn) (credits : List (List ℕ))
    (room : List Bool) : Type 0 where
  pub credit : (o w : ℕ) → o < ports p → o ≢ 0 → w < link_channels p d
      → slice_get (lane credits d) (place p d o w) ≡ Some (s.credits o w)
  pub ejection : slice_get room d ≡ Some (is_none s.ejected || i.hears)

-- the lists and the wheel show domain d of tile n in cycle t
pub record IsShown (p : Plan) (d n t : ℕ) (s : Tile) (i : TileIn) (wheel : Wheel) (stages : List (List Stage))
    (fronts : List (List (Option Flit))) (credits : List (List ℕ)) (room : List Bool) : Type 0 where
  pub cycle : Stands wheel p n t
  pub channels : AreChannels p d n s stages fronts
  pub outputs : AreOutputs p d s i credits room

-- what the channel of an input port asks for, if it is ready
abbrev pub asking : Plan → ℕ → ℕ → ℤ → Tile → TileIn → ℕ → ℕ → Option Grant
asking p d n t s i port c = if is_ready p d n t s i port c then grant_at c (s.stage port c) else None

-- the switch has the domains and ports of the plan
pub record IsFor (x : Switch) (p : Plan) : Type 0 where
  pub domains : length x.asks ≡ length p.domains
  pub port_count : x.ports ≡ ports p

-- the pointers that the switch keeps for domain d are those of the tile
pub record Keeps (x : Switch) (p : Plan) (d : ℕ) (s : Tile) : Type 0 where
  pub turn : (port : ℕ) → port < ports p → turn_at x d port ≡ s.turn port
  pub switch : (o : ℕ) → o < ports p → switch_at x d o ≡ s.switch o

-- The switch x has become y for domain d, with these grants: where it kept the pointers of a tile, it asked and granted
-- what the definition asks for and grants, and keeps the pointers of the tile after its step.
pub record HasSwitched (x y : Switch) (p : Plan) (d : ℕ) (wheel : Wheel) (stages : List (List Stage))
    (fronts : List (List (Option Flit))) (credits : List (List ℕ)) (room : List Bool)
    (grants : List (List (Option Grant))) : Type 0 where
  pub asks : (n t : ℕ) (s : Tile) (i : TileIn) → IsShown p d n t s i wheel stages fronts credits room → Keeps x p d s
      → (port : ℕ) → port < ports p → ask_at y d port ≡ asked p d n (pos t) s i port
  pub granted : (n t : ℕ) (s : Tile) (i : TileIn) → IsShown p d n t s i wheel stages fronts credits room → Keeps x p d s
      → (port : ℕ) → port < ports p → slice_get (lane grants d) port ≡ Some (grant p d n (pos t) s i port)
  pub pointers : (n t : ℕ) (s : Tile) (i : TileIn) → IsShown p d n t s i wheel stages fronts credits room
      → Keeps x p d s
      → Keeps y p d (tile_step p d n (pos t) s i)
