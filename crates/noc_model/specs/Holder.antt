-- Which input channel holds an output channel.
use Rattle.std.specs.Prelude.{◌≡◌, ◌≢◌, ℕ, ◌<◌, nat_lt, ◌==◌, ◌&&◌, Bool, true, false, Option, None}
use Rattle.noc_model.specs.declared.Stage.{Stage}
use Rattle.noc_model.specs.declared.Stage.TheVariants.{Idle, Routed, Active}
use Rattle.noc_model.specs.Plan.{Plan, ports, in_channels}
use Rattle.noc_model.specs.Inputs.{input_count, input_port, input_channel}
use Rattle.noc_model.specs.Place.{neighbour}
use Rattle.noc_model.specs.Pick.{least}
use Rattle.noc_model.specs.Tile.{Tile}
use Rattle.noc_model.specs.Run.{State}

-- the channel c of the input port, which is there, goes out by o on its channel w
pub record IsHolder (p : Plan) (d : ℕ) (s : Tile) (o w port c : ℕ) : Type 0 where
  pub inside : port < ports p
  pub below : c < in_channels p d port
  pub active : s.stage port c ≡ Active o w

-- some input channel does
pub record HasHolder (p : Plan) (d : ℕ) (s : Tile) (o w : ℕ) : Type 0 where
  pub port : ℕ
  pub channel : ℕ
  pub is_holder : IsHolder p d s o w port channel

-- an output channel is held exactly where an input channel goes out on it, and no two do
pub record IsHeldTile (p : Plan) (d n : ℕ) (s : Tile) : Type 0 where
  pub held : (o w port c : ℕ) → IsHolder p d s o w port c → s.held o w ≡ true
  pub one : (o w port c port' c' : ℕ) → IsHolder p d s o w port c → IsHolder p d s o w port' c'
      → (port ≡ port') × (c ≡ c')
  pub holder : (o w : ℕ) → s.held o w ≡ true → HasHolder p d s o w
  -- a port without a link has no packets
  pub unlinked : (port c : ℕ) → port ≢ 0 → neighbour p n port ≡ None → s.stage port c ≡ Idle

-- so it is at each tile
abbrev pub IsHeldState : Plan → ℕ → State → Type 0
IsHeldState p d s = (n : ℕ) → IsHeldTile p d n (s n)

-- whether the packet of a channel goes out by o on w
abbrev pub goes_on : Stage → ℕ → ℕ → Bool
goes_on Idle o w = false
goes_on (Routed to) o w = false
goes_on (Active to v) o w = (to == o) && (v == w)

-- whether the packet of the input at place k does
abbrev pub is_holding : Plan → ℕ → Tile → ℕ → ℕ → ℕ → Bool
is_holding p d s o w k =
    let port : ℕ = input_port p d k in
    let c : ℕ = input_channel p d k in
    nat_lt c (in_channels p d port) && goes_on (s.stage port c) o w

-- the place that holds channel w of output o
abbrev pub holder_of : Plan → ℕ → Tile → ℕ → ℕ → Option ℕ
holder_of p d s o w = least (input_count p d) (is_holding p d s o w)
