-- Two states of a domain that are the same at each place that there is.
use Rattle.std.specs.Prelude.{◌≡◌, ◌≢◌, ℕ, ◌<◌, true, false, None, Some, []}
use Rattle.noc_model.specs.declared.Stage.{Stage}
use Rattle.noc_model.specs.declared.Stage.TheVariants.{Idle, Routed, Active}
use Rattle.noc_model.specs.declared.Packet.TheVariants.{Between}
use Rattle.noc_model.specs.Plan.{Plan, tiles, hosts, channels, link_channels, in_channels, out_channels}
use Rattle.noc_model.specs.Place.{neighbour}
use Rattle.noc_model.specs.Tile.{Tile, TileIn}
use Rattle.noc_model.specs.Run.{State}
use Rattle.noc_model.specs.SoundState.{IsOutput, HasOutput}

-- the places of tile n are the channels of its local port and of its ports with a link, both ways, the rows, credits
-- and pulses of its links, and its attachment, where it hosts the domain
pub record IsSameTile (p : Plan) (d n : ℕ) (a b : Tile) : Type 0 where
  pub queue : (port c : ℕ) → IsOutput p n port → c < in_channels p d port → a.queue port c ≡ b.queue port c
  pub stage : (port c : ℕ) → IsOutput p n port → c < in_channels p d port → a.stage port c ≡ b.stage port c
  pub held : (o w : ℕ) → IsOutput p n o → w < out_channels p d o → a.held o w ≡ b.held o w
  pub allocation : (o : ℕ) → IsOutput p n o → a.allocation o ≡ b.allocation o
  pub switch : (o : ℕ) → IsOutput p n o → a.switch o ≡ b.switch o
  pub turn : (port : ℕ) → IsOutput p n port → a.turn port ≡ b.turn port
  pub row : (o m i : ℕ) → neighbour p n o ≡ Some m → i < p.stages → a.row o i ≡ b.row o i
  pub credits : (o m w : ℕ) → neighbour p n o ≡ Some m → w < link_channels p d → a.credits o w ≡ b.credits o w
  pub pulse : (port m c : ℕ) → neighbour p n port ≡ Some m → c < link_channels p d → a.pulse port c ≡ b.pulse port c
  pub packet : hosts p n d ≡ true → a.packet ≡ b.packet
  pub current : hosts p n d ≡ true → a.current ≡ b.current
  pub dropped : hosts p n d ≡ true → a.dropped ≡ b.dropped
  pub ejected : hosts p n d ≡ true → a.ejected ≡ b.ejected

-- the tiles that there are are the same
abbrev pub IsSameState : Plan → ℕ → State → State → Type 0
IsSameState p d a b = (n : ℕ) → n < tiles p → IsSameTile p d n (a n) (b n)

-- what comes in is the same by links, and at an attachment
pub record IsSameIn (p : Plan) (d n : ℕ) (i j : TileIn) : Type 0 where
  pub arrives : (port m : ℕ) → neighbour p n port ≡ Some m → i.arrives port ≡ j.arrives port
  pub returns : (o m w : ℕ) → neighbour p n o ≡ Some m → w < link_channels p d → i.returns o w ≡ j.returns o w
  pub offer : hosts p n d ≡ true → i.offer ≡ j.offer
  pub hears : hosts p n d ≡ true → i.hears ≡ j.hears

-- a port without a link has no flits and no packets
pub record IsBareTile (p : Plan) (d n : ℕ) (s : Tile) : Type 0 where
  pub empty : (port c : ℕ) → port ≢ 0 → neighbour p n port ≡ None → c < in_channels p d port → s.queue port c ≡ []
  pub idle : (port c : ℕ) → port ≢ 0 → neighbour p n port ≡ None → c < in_channels p d port → s.stage port c ≡ Idle

-- the packet of a channel goes by a link, and not out of the network
abbrev pub GoesOn : Stage → Type 0
GoesOn Idle = Unit {0}
GoesOn (Routed o) = o ≢ 0
GoesOn (Active o w) = o ≢ 0

-- what a step needs of the tile: outputs and the current channel are there, and where the domain isn't hosted all
-- packets go on
pub record IsPlacedTile (p : Plan) (d n : ℕ) (s : Tile) : Type 0 where
  pub bare : IsBareTile p d n s
  pub stages : (port c : ℕ) → HasOutput p d n (s.stage port c)
  pub current : s.current < channels p d
  pub away : hosts p n d ≡ false → (port c : ℕ) → GoesOn (s.stage port c)

-- so it is of the tiles that there are
abbrev pub IsPlacedState : Plan → ℕ → State → Type 0
IsPlacedState p d s = (n : ℕ) → n < tiles p → IsPlacedTile p d n (s n)

-- the ports without a link of the tiles that there are have nothing
abbrev pub IsBareState : Plan → ℕ → State → Type 0
IsBareState p d s = (n : ℕ) → n < tiles p → IsBareTile p d n (s n)

-- a tile that doesn't host the domain has nothing at its attachment, and no flit in the buffers of its local port
pub record IsUnattached (s : Tile) : Type 0 where
  pub packet : s.packet ≡ Between
  pub current : s.current ≡ 0
  pub dropped : s.dropped ≡ false
  pub ejected : s.ejected ≡ None
  pub local : (c : ℕ) → s.queue 0 c ≡ []
