-- What one tile needs for a cycle.
use Rattle.std.specs.Prelude.{◌≡◌, ℕ, ◌+◌, ◌<◌, length, List, Option, Some, None, slice_index_or, pos}
use Rattle.noc_model.specs.declared.LinkFlit.{LinkFlit}
use Rattle.noc_model.specs.Plan.{Plan, tiles, ports, link_channels}
use Rattle.noc_model.specs.Place.{neighbour, owner}
use Rattle.noc_model.specs.Step.{tile_step, sent}
use Rattle.noc_model.specs.Tile.{Tile, TileIn}
use Rattle.noc_model.specs.TileRun.{IsTileIn}
use Rattle.noc_model.specs.SoundState.{IsSoundTile}
use Rattle.noc_model.specs.Holder.{IsHeldTile}
use Rattle.router_core.specs.Attachments.{told_at}
use Rattle.router_core.specs.Parts.{Parts}
use Rattle.router_core.specs.Pulses.{pulse_at}
use Rattle.router_core.specs.Shown.{Shows}
use Rattle.router_core.specs.Sizes.{HasPorts}
use Rattle.cycle_sim.specs.Links.{ComesIn, pulses_of}
use Rattle.cycle_sim.specs.Net.{IsRouterOf}

-- tile n, whose router was r, has done cycle t, and sends this by its ports
pub record HasStepped (p : Plan) (n t : ℕ) (rows : List (List (Option LinkFlit))) (pulses : List (List (List (Option ℕ))))
    (r new : Parts) (out : List (Option LinkFlit)) : Type 0 where
  pub router : IsRouterOf p n (t + 1) new
  pub links : length out ≡ ports p
  pub steps : (d : ℕ) (s : Tile) (i : TileIn) → d < length p.domains → Shows r p d s
      → ComesIn p d n t rows pulses (told_at r.told d) i → Shows new p d (tile_step p d n (pos t) s i)
  pub out_is : (d o m : ℕ) (s : Tile) (i : TileIn) → d < length p.domains → Shows r p d s → ComesIn p d n t rows pulses (told_at r.told d) i
      → neighbour p n o ≡ Some m → owner p n o (pos t) ≡ d → slice_index_or out o None ≡ sent p d n (pos t) s i o

-- the credit pulses of all tiles, each with a place for each port of each domain, and of channels that there are
pub record AreAllPulses (p : Plan) (pulses : List (List (List (Option ℕ)))) : Type 0 where
  pub count : length pulses ≡ tiles p
  pub each : (m : ℕ) → m < tiles p → HasPorts p (pulses_of pulses m)
  pub few : (m d port c : ℕ) → m < tiles p → d < length p.domains → pulse_at (pulses_of pulses m) d port ≡ Some c
      → c < link_channels p d

-- the router of tile n is in a sound state of domain d, and what comes in over the links may come in
pub record MayStep (p : Plan) (d n t : ℕ) (rows : List (List (Option LinkFlit))) (pulses : List (List (List (Option ℕ))))
    (r : Parts) : Type 0 where
  pub tile : Tile
  pub input : TileIn
  pub shows : Shows r p d tile
  pub comes : ComesIn p d n t rows pulses (told_at r.told d) input
  pub sound : IsSoundTile p d n (pos t) tile
  pub held : IsHeldTile p d n tile
  pub may : IsTileIn p d n (pos t) tile input
