-- The channel allocator of a tile.
use Rattle.std.specs.Prelude.{◌≡◌, ℕ, ◌+◌, ◌*◌, ◌<◌, ◌≤◌, Bool, not, List, map, replicate, length, slice_index, slice_index_or, slice_set, Option, Some, None, is_some, option_map, if◌then◌else◌}
use Rattle.std.specs.List.{range_with_len}
use Rattle.noc_model.specs.Plan.{Plan, ports, link_channels, channels, at_local}
use Rattle.noc_model.specs.Inputs.{input_count}
use Rattle.noc_model.specs.Pick.{least}
use Rattle.vc_partition.specs.Lanes.{lane}
use Rattle.vc_partition.specs.Picks.{comes_first}
use Rattle.vc_alloc.specs.declared.Winner.{Winner}

-- what contracts see: the tile; of each domain its channels of one class and on a link, by output channel the input
-- that holds it, by output the pointer; and of each output the best input that wants it in this cycle
pub record Allocator : Type 0 where
  pub tile : ℕ
  pub channels : List ℕ
  pub link_channels : List ℕ
  pub holders : List (List (Option ℕ))
  pub pointers : List (List ℕ)
  pub best : List (Option Winner)

-- the channels of domain d of one class
abbrev pub channels_at : Allocator → ℕ → ℕ
channels_at x d = slice_index x.channels d

-- its channels on a link
abbrev pub link_channels_at : Allocator → ℕ → ℕ
link_channels_at x d = slice_index x.link_channels d

-- where the channel w of output o stands among the output channels of domain d
abbrev pub spot : Allocator → ℕ → ℕ → ℕ → ℕ
spot x d o w = o * link_channels_at x d + w

-- the input that holds channel w of output o
abbrev pub holder_at : Allocator → ℕ → ℕ → ℕ → Option ℕ
holder_at x d o w = slice_index_or (lane x.holders d) (spot x d o w) None

-- whether some input holds it
abbrev pub held_at : Allocator → ℕ → ℕ → ℕ → Bool
held_at x d o w = is_some (holder_at x d o w)

-- the round-robin pointer of output o
abbrev pub pointer_at : Allocator → ℕ → ℕ → ℕ
pointer_at x d o = slice_index_or (lane x.pointers d) o 0

-- the best input that wants output o
abbrev pub best_at : Allocator → ℕ → Option Winner
best_at x o = slice_index_or x.best o None

-- the least free channel of the class
abbrev pub free_in : Allocator → ℕ → ℕ → ℕ → Option ℕ
free_in x d o class =
    option_map (λ j. class * channels_at x d + j)
    (least (at_local o 1 (channels_at x d)) (λ j. not (held_at x d o (class * channels_at x d + j))))

-- the better of the best so far and another input, from the pointer on
abbrev pub better_of : ℕ → Option Winner → Winner → Winner
better_of pointer None w = w
better_of pointer (Some b) w = if comes_first pointer w.place b.place then w else b

-- the best, where the input at a place wants this free channel too
abbrev pub wanted : ℕ → Option Winner → ℕ → Option ℕ → Option Winner
wanted pointer best place None = best
wanted pointer best place (Some to) = Some (better_of pointer best (record { place = place; to = to }))

-- another best input of output o; all else stays
abbrev pub with_best : Allocator → ℕ → Option Winner → Allocator
with_best x o b = record x { best = slice_set x.best o b }

-- another holder of channel w of output o; all else stays
abbrev pub with_holder : Allocator → ℕ → ℕ → ℕ → Option ℕ → Allocator
with_holder x d o w k = record x { holders = slice_set x.holders d (slice_set (lane x.holders d) (spot x d o w) k) }

-- another pointer of output o; all else stays
abbrev pub with_pointer : Allocator → ℕ → ℕ → ℕ → Allocator
with_pointer x d o k = record x { pointers = slice_set x.pointers d (slice_set (lane x.pointers d) o k) }

-- an input takes its channel of output o, and the pointer moves to behind it
abbrev pub taken : Allocator → ℕ → ℕ → Winner → Allocator
taken x d o b = with_pointer (with_holder x d o b.to (Some b.place)) d o (b.place + 1)

-- the best input of output o takes its channel, and nothing wants the output any more
abbrev pub committed : Allocator → ℕ → ℕ → Option Winner → Allocator
committed x d o None = x
committed x d o (Some b) = taken (with_best x o None) d o b

-- the best inputs are inputs of domain d, and want channels of it
abbrev pub AreOf : Allocator → ℕ → Type 0
AreOf x d = (o : ℕ) (b : Winner) → best_at x o ≡ Some b
    → (b.place < length x.best * link_channels_at x d) × (b.to < link_channels_at x d)

-- each domain has its channels, and a holder for each channel of each output and a pointer for each output
pub record IsAllocator (x : Allocator) : Type 0 where
  pub few_ports : length x.best ≤ 7
  pub link_channels : length x.link_channels ≡ length x.channels
  pub holders : length x.holders ≡ length x.channels
  pub pointers : length x.pointers ≡ length x.channels
  pub some : (d : ℕ) → d < length x.channels → 1 ≤ channels_at x d
  pub within : (d : ℕ) → d < length x.channels → channels_at x d ≤ link_channels_at x d
  pub few : (d : ℕ) → d < length x.channels → link_channels_at x d ≤ 8
  pub spots : (d : ℕ) → d < length x.channels → length (lane x.holders d) ≡ length x.best * link_channels_at x d
  pub outputs : (d : ℕ) → d < length x.channels → length (lane x.pointers d) ≡ length x.best

-- the allocator of a tile at the start: all channels are free
abbrev pub start_of : Plan → ℕ → Allocator
start_of p n = record {
  tile = n;
  channels = map (channels p) (range_with_len 0 (length p.domains));
  link_channels = map (link_channels p) (range_with_len 0 (length p.domains));
  holders = map (λ d. replicate (input_count p d) None) (range_with_len 0 (length p.domains));
  pointers = map (λ d. replicate (ports p) 0) (range_with_len 0 (length p.domains));
  best = replicate (ports p) None;
}
