-- The step of all tiles, and the run of one domain alone.
use Rattle.std.specs.Prelude.{ℕ, zero, suc, ◌-◌, Bool, false, List, [], ◌∷◌, ◌&&◌, if◌then◌else◌, Option, Some, None, option_and_then, ℤ, pos}
use Rattle.noc_model.specs.declared.LinkFlit.{LinkFlit}
use Rattle.noc_model.specs.declared.Offer.{Offer}
use Rattle.noc_model.specs.Plan.{Plan, hosts}
use Rattle.noc_model.specs.Place.{neighbour, opposite}
use Rattle.noc_model.specs.Tile.{Tile, TileIn, start_tile}
use Rattle.noc_model.specs.Step.{tile_step}

-- the state of one domain: what each tile keeps
abbrev pub State : Type 0
State = ℕ → Tile

-- what the outside does in a cycle: for each tile an offer, and whether it hears
pub record Input : Type 0 where
  pub offer : ℕ → Option Offer
  pub hears : ℕ → Bool

-- the state of cycle 0
abbrev pub start : Plan → State
start p n = start_tile p

-- the last place of the link that leaves the tile by the port
abbrev pub last_place : Plan → Tile → ℕ → Option LinkFlit
last_place p s o = s.row o (p.stages - 1)

-- what arrives at the tile by the port: the last place of its neighbour's link to it
unfoldable pub arrival : Plan → State → ℕ → ℕ → Option LinkFlit
arrival p s n port = option_and_then (λ m. last_place p (s m) (opposite port)) (neighbour p n port)

-- the pulse of the neighbour's channel c, where there is a neighbour
abbrev pub pulse_from : State → Option ℕ → ℕ → ℕ → Bool
pulse_from s None port c = false
pulse_from s (Some m) port c = (s m).pulse port c

-- the pulses that the neighbour has for the leaving link
unfoldable pub return_of : Plan → State → ℕ → ℕ → ℕ → Bool
return_of p s n port c = pulse_from s (neighbour p n port) (opposite port) c

-- what the tile is fed. Only a tile that hosts the domain is offered words, and hears
abbrev pub fed : Plan → ℕ → State → Input → ℕ → TileIn
fed p d s x n = record {
  arrives = arrival p s n;
  returns = return_of p s n;
  offer = if hosts p n d then x.offer n else None;
  hears = hosts p n d && x.hears n;
}

-- the step of domain d in cycle t: the step of each tile, fed by its neighbours
unfoldable pub step : Plan → ℕ → ℤ → State → Input → State
step p d t s x n = tile_step p d n t (s n) (fed p d s x n)

-- the state of cycle t, from the start, where cycle k has the input xs k
abbrev pub state_after : Plan → ℕ → (ℕ → Input) → ℕ → State
state_after p d xs zero = start p
state_after p d xs (suc t) = step p d (pos t) (state_after p d xs t) (xs t)

-- the state after these inputs, from the state s of cycle t on
abbrev pub state_from : Plan → ℕ → ℕ → State → List Input → State
state_from p d t s [] = s
state_from p d t s (x ∷ xs) = state_from p d (suc t) (step p d (pos t) s x) xs

-- the state after these inputs, from the start
abbrev pub run : Plan → ℕ → List Input → State
run p d xs = state_from p d 0 (start p) xs
