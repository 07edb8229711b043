-- What the outputs of the allocator give, one after the other, and what stays.
use Rattle.std.specs.Prelude.{◌≡◌, ◌≢◌, ℕ, zero, suc, ◌+◌, ◌<◌, true, ◌==◌, nat_lt, ◌||◌, List, length, Option, Some, None, if◌then◌else◌}
use Rattle.noc_model.specs.declared.Stage.{Stage}
use Rattle.noc_model.specs.declared.Stage.TheVariants.{Idle, Routed, Active}
use Rattle.noc_model.specs.Plan.{Plan, ports, link_channels}
use Rattle.noc_model.specs.Inputs.{input_count}
use Rattle.noc_model.specs.Tile.{Tile}
use Rattle.noc_model.specs.Step.{winner, taken_channel, is_place, activated, after}
use Rattle.vc_partition.specs.Lanes.{lane}
use Rattle.vc_alloc.specs.declared.Winner.{Winner}
use Rattle.vc_alloc.specs.Allocator.{Allocator, link_channels_at, holder_at, held_at, pointer_at, best_at, AreOf}
use Rattle.vc_alloc.specs.Shown.{stage_at, Shows}

-- the lanes u have become w, with as many places, and only those of domain d have changed
pub record OnlyLane {T : Type 0} (u w : List (List T)) (d : ℕ) : Type 0 where
  pub others : (e : ℕ) → e ≢ d → lane w e ≡ lane u e
  pub places : length (lane w d) ≡ length (lane u d)
  pub domains : length w ≡ length u

-- only what is kept for domain d has changed, and the best inputs
pub record OnlyDomain (x y : Allocator) (d : ℕ) : Type 0 where
  pub rest : y ≡ record x { holders = y.holders; pointers = y.pointers; best = y.best }
  pub outputs : length y.best ≡ length x.best
  pub holders : OnlyLane x.holders y.holders d
  pub pointers : OnlyLane x.pointers y.pointers d

-- the holder of channel w of an output, after its best input took its channel
abbrev pub held_after : Option Winner → ℕ → Option ℕ → Option ℕ
held_after None w holder = holder
held_after (Some b) w holder = if b.to == w then Some b.place else holder

-- the pointer of an output, after its best input took its channel
abbrev pub pointer_after : Option Winner → ℕ → ℕ
pointer_after None pointer = pointer
pointer_after (Some b) pointer = b.place + 1

-- the stage of the input at place k, after the best input of output o took its channel
abbrev pub stage_after : ℕ → Option Winner → ℕ → Stage → Stage
stage_after o None k next = next
stage_after o (Some b) k next = if b.place == k then Active o b.to else next

-- the holder of channel w of output k, where the outputs below o have given their channels
abbrev pub holder_below : ℕ → Allocator → ℕ → ℕ → ℕ → Option ℕ
holder_below o x d k w = if nat_lt k o then held_after (best_at x k) w (holder_at x d k w) else holder_at x d k w

-- the pointer of output k then
abbrev pub pointer_below : ℕ → Allocator → ℕ → ℕ → ℕ
pointer_below o x d k = if nat_lt k o then pointer_after (best_at x k) (pointer_at x d k) else pointer_at x d k

-- the stage of the input at place k then
abbrev pub stage_below : ℕ → Allocator → ℕ → Stage → Stage
stage_below zero x k next = next
stage_below (suc o) x k next = stage_after o (best_at x o) k (stage_below o x k next)

-- the outputs of domain d below o have given their channels: the allocator x has become y, and the stages u have
-- become v
pub record HaveCommitted (x y : Allocator) (u v : List (List Stage)) (d o : ℕ) : Type 0 where
  pub only : OnlyDomain x y d
  pub same : AreOf y d
  pub best : (k : ℕ) → best_at y k ≡ (if nat_lt k o then None else best_at x k)
  pub held : (k w : ℕ) → k < length x.best → w < link_channels_at x d → holder_at y d k w ≡ holder_below o x d k w
  pub moved : (k : ℕ) → k < length x.best → pointer_at y d k ≡ pointer_below o x d k
  pub active : (k : ℕ) → k < length (lane u d) → stage_at v d k ≡ stage_below o x k (stage_at u d k)
  pub stages : OnlyLane u v d

-- what comes next of the input at place k, whose stage is the first: where it wins its output it gets the channel, and
-- else what comes next stays
abbrev pub allocated : Plan → ℕ → ℕ → Tile → ℕ → Stage → Stage → Stage
allocated p d n s k Idle next = next
allocated p d n s k (Routed o) next =
    if is_place (winner p d n s o) k then activated true o (taken_channel p d n s o) else next
allocated p d n s k (Active o w) next = next

-- The allocator x has become y for domain d, and what comes next of its stages, u, has become v: where it held the
-- channels of a tile and had its pointers, the winners of the definition have their channels, which are held by them,
-- and the pointers are those of the tile after its step.
pub record HasAllocated (x y : Allocator) (stages u v : List (List Stage)) (p : Plan) (d : ℕ) : Type 0 where
  pub active : (s : Tile) → Shows x stages p d s → (k : ℕ) → k < input_count p d
      → stage_at v d k ≡ allocated p d x.tile s k (stage_at stages d k) (stage_at u d k)
  pub holders : (s : Tile) → Shows x stages p d s → (o w : ℕ) → o < ports p → w < link_channels p d
      → holder_at y d o w
      ≡ (if is_place (taken_channel p d x.tile s o) w then winner p d x.tile s o else holder_at x d o w)
  pub held : (s : Tile) → Shows x stages p d s → (o w : ℕ) → o < ports p → w < link_channels p d
      → held_at y d o w ≡ (s.held o w || is_place (taken_channel p d x.tile s o) w)
  pub pointers : (s : Tile) → Shows x stages p d s → (o : ℕ) → o < ports p
      → pointer_at y d o ≡ after (winner p d x.tile s o) (s.allocation o)

-- nothing wants any output
abbrev pub IsQuiet : Allocator → Type 0
IsQuiet x = (o : ℕ) → best_at x o ≡ None
