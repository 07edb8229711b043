-- The run of one tile, and what may come into it.
use Rattle.std.specs.Prelude.{◌≡◌, ℕ, zero, suc, ◌<◌, ◌≤◌, true, false, length, Some, None, ℤ, pos, ◌-ℤ◌}
use Rattle.noc_model.specs.declared.LinkFlit.{LinkFlit}
use Rattle.noc_model.specs.Plan.{Plan, link_channels, hosts}
use Rattle.noc_model.specs.Place.{neighbour, opposite, owner}
use Rattle.noc_model.specs.Tile.{Tile, TileIn, start_tile}
use Rattle.noc_model.specs.Step.{tile_step}
use Rattle.noc_model.specs.SoundState.{GoesHome}

-- tile n in cycle t, from the start, where `is k` is what comes in during cycle k
abbrev pub tile_after : Plan → ℕ → ℕ → (ℕ → TileIn) → ℕ → Tile
tile_after p d n is zero = start_tile p
tile_after p d n is (suc t) = tile_step p d n (pos t) (tile_after p d n is t) (is t)

-- the flit may arrive by the port in cycle t: by a link, from a cycle in which the domain owned it, on a channel of
-- the domain with room, for a tile that hosts the domain
pub record MayArrive (p : Plan) (d n : ℕ) (t : ℤ) (s : Tile) (port : ℕ) (x : LinkFlit) : Type 0 where
  pub from : ℕ
  pub linked : neighbour p n port ≡ Some from
  pub owned : owner p from (opposite port) (t -ℤ pos p.stages) ≡ d
  pub channel : x.channel < link_channels p d
  pub room : length (s.queue port x.channel) < p.buffer
  pub home : GoesHome p d x.flit

-- what may come into tile n in cycle t: such flits, credits for counts below the buffer, and nothing from the outside
-- where the tile doesn't host the domain
pub record IsTileIn (p : Plan) (d n : ℕ) (t : ℤ) (s : Tile) (i : TileIn) : Type 0 where
  pub arrives : (port : ℕ) (x : LinkFlit) → i.arrives port ≡ Some x → MayArrive p d n t s port x
  pub returns : (o m w : ℕ) → neighbour p n o ≡ Some m → w < link_channels p d → i.returns o w ≡ true
      → s.credits o w < p.buffer
  pub offer : hosts p n d ≡ false → i.offer ≡ None
  pub hears : hosts p n d ≡ false → i.hears ≡ false

-- in each cycle of the run this may come into the tile
abbrev pub AreTileIns : Plan → ℕ → ℕ → (ℕ → TileIn) → Type 0
AreTileIns p d n is = (t : ℕ) → IsTileIn p d n (pos t) (tile_after p d n is t) (is t)

-- no buffer holds more flits than its depth, and no credit count of a link is above it
pub record IsWithin (p : Plan) (d n : ℕ) (s : Tile) : Type 0 where
  pub lists : (port c : ℕ) → length (s.queue port c) ≤ p.buffer
  pub credits : (o m w : ℕ) → neighbour p n o ≡ Some m → w < link_channels p d → s.credits o w ≤ p.buffer
