-- The heads of a tile's packets: those at the front of an idle channel get a route, and of those that wait for an output
-- one gets a channel there.
use Rattle.std.specs.Prelude.{◌≡◌, ◌≢◌, ℕ, ◌<◌, ◌≤◌, ◌||◌, nat_lt, List, Option, Some, None, slice_get, option_map, if◌then◌else◌}
use Rattle.noc_model.specs.declared.Flit.{Flit}
use Rattle.noc_model.specs.declared.Stage.{Stage}
use Rattle.noc_model.specs.declared.Stage.TheVariants.{Idle, Routed, Active}
use Rattle.noc_model.specs.Plan.{Plan, ports, link_channels}
use Rattle.noc_model.specs.Inputs.{place, input_count}
use Rattle.noc_model.specs.Tile.{Tile}
use Rattle.noc_model.specs.Step.{routed, activated, winner, taken_channel, is_place, after}
use Rattle.flit_pool.specs.Lists.{Lists}
use Rattle.route_stage.specs.Routed.{stage_at, with_stage, routed_next, GoesToTile, HasInputs}
use Rattle.vc_partition.specs.Lanes.{lane}
use Rattle.vc_alloc.specs.declared.Winner.{Winner}
use Rattle.vc_alloc.specs.Allocator.{Allocator, held_at, pointer_at, best_at, AreOf}
use Rattle.router_core.specs.Buffers.{flits_at}
use Rattle.router_core.specs.Sizes.{HasAllocator}

-- the first flit of domain d at the input of place k
abbrev pub front_of : List Lists → ℕ → ℕ → Option Flit
front_of xs d k = slice_get (flits_at xs d k) 0

-- the first flits of a domain go to tiles of the plan
abbrev pub FrontsGo : Plan → List Lists → ℕ → Type 0
FrontsGo p xs d = (k : ℕ) → GoesToTile p (front_of xs d k)

-- the stage of an input at tile n, by its first flit
abbrev pub headed : Plan → ℕ → Option Flit → Stage → Stage
headed p n front s = routed_next p n front s s

-- the stages of domain d where its first so many inputs are routed
abbrev pub headed_to : ℕ → Plan → ℕ → List Lists → List (List Stage) → ℕ → ℕ → Stage
headed_to count p n xs v d k =
    if nat_lt k count then headed p n (front_of xs d k) (stage_at v d k) else stage_at v d k

-- the stages where the input that wins output o has its channel
abbrev pub given : List (List Stage) → ℕ → ℕ → Option Winner → List (List Stage)
given v d o None = v
given v d o (Some b) = with_stage v d b.place (Active o b.to)

-- the place of the input that wins
abbrev pub place_of : Option Winner → Option ℕ
place_of b = option_map (λ (w : Winner). w.place) b

-- and the channel that it gets
abbrev pub to_of : Option Winner → Option ℕ
to_of b = option_map (λ (w : Winner). w.to) b

-- the input at place k wins none of the outputs below n but perhaps q
abbrev pub WinsNone : Allocator → ℕ → ℕ → ℕ → Type 0
WinsNone x n q k = (o : ℕ) (b : Winner) → o < n → o ≢ q → best_at x o ≡ Some b → b.place ≢ k

-- from the allocator x and the stages v on, the outputs of domain d below o have given their channels
pub record GivesBelow (o : ℕ) (p : Plan) (d : ℕ) (x y : Allocator) (v u : List (List Stage)) : Type 0 where
  pub made : HasAllocator p x.tile y
  pub inputs : HasInputs p u
  pub same : AreOf y d
  pub ahead : (q : ℕ) → o ≤ q → best_at y q ≡ best_at x q
  pub quiet : (q : ℕ) → q < o → best_at y q ≡ None
  pub held : (q w : ℕ) → q < o → q < ports p → w < link_channels p d
      → held_at y d q w ≡ (held_at x d q w || is_place (to_of (best_at x q)) w)
  pub held_ahead : (q w : ℕ) → o ≤ q → q < ports p → w < link_channels p d → held_at y d q w ≡ held_at x d q w
  pub pointers : (q : ℕ) → q < o → pointer_at y d q ≡ after (place_of (best_at x q)) (pointer_at x d q)
  pub pointers_ahead : (q : ℕ) → o ≤ q → pointer_at y d q ≡ pointer_at x d q
  pub won : (q k : ℕ) (b : Winner) → q < o → k < input_count p d → best_at x q ≡ Some b → b.place ≡ k → WinsNone x o q k
      → stage_at u d k ≡ Active q b.to
  pub lost : (k : ℕ) → WinsNone x o o k → stage_at u d k ≡ stage_at v d k
  pub other_held : (e q w : ℕ) → e ≢ d → held_at y e q w ≡ held_at x e q w
  pub other_pointers : (e q : ℕ) → e ≢ d → pointer_at y e q ≡ pointer_at x e q
  pub other_stages : (e : ℕ) → e ≢ d → lane u e ≡ lane v e

-- the stage of a channel after the heads were placed
abbrev pub placed_stage : Plan → ℕ → ℕ → Tile → ℕ → ℕ → Stage → Stage
placed_stage p d n s port c Idle = routed p n (s.queue port c) Idle
placed_stage p d n s port c (Routed o) =
    activated (is_place (winner p d n s o) (place p d port c)) o (taken_channel p d n s o)
placed_stage p d n s port c (Active o w) = Active o w

-- the tile after the heads were placed
abbrev pub placed : Plan → ℕ → ℕ → Tile → Tile
placed p d n s = record s {
  stage = λ port c. placed_stage p d n s port c (s.stage port c);
  held = λ o w. s.held o w || is_place (taken_channel p d n s o) w;
  allocation = λ o. after (winner p d n s o) (s.allocation o);
}
