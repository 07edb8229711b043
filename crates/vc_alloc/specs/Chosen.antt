-- The best input of an output, as a choice from the set of those that want it.
use Rattle.std.specs.Prelude.{◌≡◌, ℕ, ◌<◌, Bool, true, Option, Some, None, is_some, option_map, if◌then◌else◌}
use Rattle.noc_model.specs.Plan.{Plan, link_channels, channels}
use Rattle.noc_model.specs.Inputs.{input_port, input_channel}
use Rattle.noc_model.specs.Tile.{Tile}
use Rattle.noc_model.specs.Step.{free_for}
use Rattle.vc_partition.specs.Picks.{with_member}
use Rattle.vc_alloc.specs.declared.Winner.{Winner}
use Rattle.vc_alloc.specs.Allocator.{Allocator, channels_at, held_at}

-- the input that was chosen, with the channel that is free for it
abbrev pub winner_with : (ℕ → Option ℕ) → Option ℕ → Option Winner
winner_with free None = None
winner_with free (Some k) = option_map (λ to. let w : Winner = record { place = k; to = to } in w) (free k)

-- the set, with this input too where a channel is free for it
abbrev pub with_input : (ℕ → Bool) → (ℕ → Option ℕ) → ℕ → ℕ → Bool
with_input set free m = if is_some (free m) then with_member set m else set

-- for each input of the set a channel is free
abbrev pub HaveFree : ℕ → (ℕ → Bool) → (ℕ → Option ℕ) → Type 0
HaveFree n set free = (k : ℕ) → k < n → set k ≡ true → is_some (free k) ≡ true

-- the channel of output o that is free for the input at place k
abbrev pub free_at : Plan → ℕ → ℕ → Tile → ℕ → ℕ → Option ℕ
free_at p d n s o k = free_for p d n s o (input_port p d k) (input_channel p d k)

-- the allocator holds the channels of output o that the tile holds
pub record HoldsAs (x : Allocator) (p : Plan) (d : ℕ) (s : Tile) (o : ℕ) : Type 0 where
  pub channels : channels_at x d ≡ channels p d
  pub held : (w : ℕ) → w < link_channels p d → held_at x d o w ≡ s.held o w
