-- The part of a tile's state that the allocator and the stages of its inputs show.
use Rattle.std.specs.Prelude.{◌≡◌, ℕ, ◌<◌, List, length, slice_index_or, nat_lt, if◌then◌else◌}
use Rattle.noc_model.specs.declared.Stage.{Stage}
use Rattle.noc_model.specs.declared.Stage.TheVariants.{Idle, Routed, Active}
use Rattle.noc_model.specs.Plan.{Plan, ports, link_channels, channels, in_channels}
use Rattle.noc_model.specs.Inputs.{input_count, input_port, input_channel}
use Rattle.noc_model.specs.Tile.{Tile}
use Rattle.noc_model.specs.Step.{class_of}
use Rattle.vc_partition.specs.Lanes.{lane}
use Rattle.vc_alloc.specs.Allocator.{Allocator, channels_at, link_channels_at, held_at, pointer_at, best_at, free_in, wanted, with_best}

-- the stage of domain d at the input of place k
abbrev pub stage_at : List (List Stage) → ℕ → ℕ → Stage
stage_at v d k = slice_index_or (lane v d) k Idle

-- the output of a packet that waits for one is a port below n
abbrev pub GoesBelow : ℕ → Stage → Type 0
GoesBelow n Idle = Unit {0}
GoesBelow n (Routed o) = o < n
GoesBelow n (Active o w) = Unit {0}

-- the allocator has the sizes of the plan in domain d
pub record IsFor (x : Allocator) (p : Plan) (d : ℕ) : Type 0 where
  pub domain : d < length x.channels
  pub port_count : length x.best ≡ ports p
  pub class : channels_at x d ≡ channels p d
  pub link : link_channels_at x d ≡ link_channels p d

-- the tile holds the output channels that the allocator holds, and has its pointers, and the stages of the inputs
pub record Shows (x : Allocator) (stages : List (List Stage)) (p : Plan) (d : ℕ) (s : Tile) : Type 0 where
  pub held : (o w : ℕ) → o < ports p → w < link_channels p d → held_at x d o w ≡ s.held o w
  pub pointers : (o : ℕ) → o < ports p → pointer_at x d o ≡ s.allocation o
  pub inputs : (k : ℕ) → k < input_count p d → stage_at stages d k ≡ s.stage (input_port p d k) (input_channel p d k)

-- the allocator where the input at place k wants output o, if its channel is there
abbrev pub wanted_by : Allocator → Plan → ℕ → ℕ → ℕ → Allocator
wanted_by x p d k o =
    if nat_lt (input_channel p d k) (in_channels p d (input_port p d k))
    then with_best x o (wanted (pointer_at x d o) (best_at x o) k
    (free_in x d o (class_of p d x.tile (input_port p d k) (input_channel p d k) o)))
    else x

-- the allocator where the input at place k is made known, if its packet waits for an output
abbrev pub wanted_at : Allocator → Plan → ℕ → ℕ → Stage → Allocator
wanted_at x p d k Idle = x
wanted_at x p d k (Routed o) = wanted_by x p d k o
wanted_at x p d k (Active o w) = x
