-- The credits of a tile's outputs.
use Rattle.std.specs.Prelude.{ℕ, ◌≤◌, List, map, replicate, length, slice_index_or, slice_set}
use Rattle.std.specs.List.{range_with_len}
use Rattle.noc_model.specs.Plan.{Plan}
use Rattle.noc_model.specs.Inputs.{input_count}
use Rattle.vc_partition.specs.Lanes.{lane}

-- what contracts see: for each domain the count of each output channel, by place, and the most that one may be
pub record Counts : Type 0 where
  pub lanes : List (List ℕ)
  pub buffer : ℕ

-- the count of domain d at a place
abbrev pub count_at : Counts → ℕ → ℕ → ℕ
count_at x d k = slice_index_or (lane x.lanes d) k 0

-- another count there; all others stay
abbrev pub with_count : Counts → ℕ → ℕ → ℕ → Counts
with_count x d k n = record { lanes = slice_set x.lanes d (slice_set (lane x.lanes d) k n); buffer = x.buffer }

-- a credit for each slot of the buffer, for each channel of each port
abbrev pub full_counts : Plan → Counts
full_counts p = record {
  lanes = map (λ d. replicate (input_count p d) p.buffer) (range_with_len 0 (length p.domains));
  buffer = p.buffer;
}

-- no count is above the number of the buffer's slots
abbrev pub AreWithin : List (List ℕ) → ℕ → Type 0
AreWithin v buffer = (d k : ℕ) → slice_index_or (lane v d) k 0 ≤ buffer
