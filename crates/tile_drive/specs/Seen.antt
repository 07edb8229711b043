-- What one cycle shows at each attachment.
use Rattle.std.specs.Prelude.{ℕ, false, List, None, slice_index_or}
use Rattle.tile_drive.specs.declared.cycle_seen.SeenAt.{SeenAt}

-- no word, not ready, no drop and no flit
abbrev pub nothing_seen : SeenAt
nothing_seen = record { offered = None; ready = false; dropped = false; got = None }

-- what is seen at attachment j
abbrev pub seen_at : List SeenAt → ℕ → SeenAt
seen_at seen j = slice_index_or seen j nothing_seen
