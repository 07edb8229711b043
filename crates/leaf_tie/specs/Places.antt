-- The places of a domain's input channels, numbered as the network numbers them: a port's number times the channels of
-- a link, plus the channel. A vector has a bit for each, also for places that the tile doesn't have, where it is 0.
use Rattle.std.specs.Prelude.{ℕ, ◌/◌, ◌%◌, Bool, true, false, List, [], ◌∷◌, ◌==◌, ◌&&◌, ℤ}
use Rattle.noc_model.specs.declared.Flit.{Flit}
use Rattle.noc_model.specs.declared.Stage.{Stage}
use Rattle.noc_model.specs.declared.Stage.TheVariants.{Idle, Routed, Active}
use Rattle.noc_model.specs.Plan.{Plan, link_channels}
use Rattle.noc_model.specs.Place.{route}
use Rattle.noc_model.specs.Tile.{Tile, TileIn}
use Rattle.noc_model.specs.Step.{leaves, front, is_tail}

-- the state of the channel at a place
abbrev pub stage_at : Plan → ℕ → Tile → ℕ → Stage
stage_at p d s place = s.stage (place / link_channels p d) (place % link_channels p d)

-- the buffer of the channel at a place
abbrev pub queue_at : Plan → ℕ → Tile → ℕ → List Flit
queue_at p d s place = s.queue (place / link_channels p d) (place % link_channels p d)

-- whether the channel is idle
abbrev pub is_idle : Stage → Bool
is_idle Idle = true
is_idle (Routed o) = false
is_idle (Active o w) = false

-- whether the channel is active on channel w of the output
abbrev pub is_active : Stage → ℕ → ℕ → Bool
is_active Idle o w = false
is_active (Routed to) o w = false
is_active (Active to v) o w = (to == o) && (v == w)

-- whether the front flit goes by the output
abbrev pub leads : Plan → ℕ → List Flit → ℕ → Bool
leads p n [] o = false
leads p n (f ∷ fs) o = route p n f.dest == o

-- whether the channel becomes routed to the output
abbrev pub is_led : Plan → ℕ → List Flit → Stage → ℕ → Bool
is_led p n q st o = is_idle st && leads p n q o

-- whether a flit leaves the place
abbrev pub leaves_at : Plan → ℕ → ℕ → ℤ → Tile → TileIn → ℕ → Bool
leaves_at p d n t s i place = leaves p d n t s i (place / link_channels p d) (place % link_channels p d)

-- whether the last flit of a packet does
abbrev pub ends_at : Plan → ℕ → ℕ → ℤ → Tile → TileIn → ℕ → Bool
ends_at p d n t s i place = leaves_at p d n t s i place && is_tail (front (queue_at p d s place))
