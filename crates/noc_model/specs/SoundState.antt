-- What holds in every state of every run of one domain.
use Rattle.std.specs.Prelude.{◌≡◌, ◌≢◌, ℕ, ◌<◌, ◌≤◌, ◌⊎◌, true, [], length, Some, None, is_some, All, ℤ, pos, ◌+◌, ◌-ℤ◌}
use Rattle.noc_model.specs.declared.Flit.{Flit}
use Rattle.noc_model.specs.declared.LinkFlit.{LinkFlit}
use Rattle.noc_model.specs.declared.Stage.{Stage}
use Rattle.noc_model.specs.declared.Stage.TheVariants.{Idle, Routed, Active}
use Rattle.noc_model.specs.declared.Packet.{Packet}
use Rattle.noc_model.specs.declared.Packet.TheVariants.{Between, Passing, Dropping}
use Rattle.noc_model.specs.Plan.{Plan, tiles, hosts, channels, link_channels, out_channels}
use Rattle.noc_model.specs.Place.{neighbour, owner}
use Rattle.noc_model.specs.Tile.{Tile}
use Rattle.noc_model.specs.Run.{State}

-- the flit goes to a tile that hosts the domain
abbrev pub GoesHome : Plan → ℕ → Flit → Type 0
GoesHome p d f = hosts p f.dest d ≡ true

-- the output port is the local one, or has a link
abbrev pub IsOutput : Plan → ℕ → ℕ → Type 0
IsOutput p n o = (o ≡ 0) ⊎ (is_some (neighbour p n o) ≡ true)

-- the packet of a channel goes by an output that is there, on one of the domain's channels
abbrev pub HasOutput : Plan → ℕ → ℕ → Stage → Type 0
HasOutput p d n Idle = Unit {0}
HasOutput p d n (Routed o) = IsOutput p n o
HasOutput p d n (Active o w) = IsOutput p n o × (w < out_channels p d o)

-- the packet that is given in goes to a tile that hosts the domain
abbrev pub IsSoundPacket : Plan → ℕ → Packet → Type 0
IsSoundPacket p d Between = Unit {0}
IsSoundPacket p d (Passing dest) = hosts p dest d ≡ true
IsSoundPacket p d Dropping = Unit {0}

-- what holds of tile n in cycle t
pub record IsSoundTile (p : Plan) (d n : ℕ) (t : ℤ) (s : Tile) : Type 0 where
  pub queued : (port c : ℕ) → All (GoesHome p d) (s.queue port c)
  pub on_link : (o i : ℕ) (x : LinkFlit) → s.row o i ≡ Some x → GoesHome p d x.flit
  pub waiting : (f : Flit) → s.ejected ≡ Some f → GoesHome p d f
  pub packet : IsSoundPacket p d s.packet
  pub stages : (port c : ℕ) → HasOutput p d n (s.stage port c)
  -- a flit on a link has a channel of the domain, and came there in a cycle that the domain owned
  pub channel : (o i : ℕ) (x : LinkFlit) → o ≢ 0 → s.row o i ≡ Some x → x.channel < link_channels p d
  pub owned : (o i : ℕ) (x : LinkFlit) → o ≢ 0 → s.row o i ≡ Some x → owner p n o (t -ℤ pos (i + 1)) ≡ d
  pub current : s.current < channels p d
  -- a buffer of the local port holds no more flits than its depth, and one of a port without a link is empty
  pub local : (c : ℕ) → length (s.queue 0 c) ≤ p.buffer
  pub unlinked : (port c : ℕ) → port ≢ 0 → neighbour p n port ≡ None → s.queue port c ≡ []

-- what holds in cycle t
pub record IsSoundState (p : Plan) (d : ℕ) (t : ℤ) (s : State) : Type 0 where
  pub tile : (n : ℕ) → IsSoundTile p d n t (s n)
  -- no buffer holds more flits than its depth, and no credit count of a link is above it
  pub lists : (n port c : ℕ) → n < tiles p → length ((s n).queue port c) ≤ p.buffer
  pub credits : (n o m w : ℕ) → n < tiles p → neighbour p n o ≡ Some m → (s n).credits o w ≤ p.buffer
