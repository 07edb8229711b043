-- The credit pulses of a tile: of each domain and each input port the channel that a flit left in the cycle before.
use Rattle.std.specs.Prelude.{◌≡◌, ℕ, ◌<◌, Bool, false, ◌==◌, List, map, replicate, length, Option, None, Some, slice_index_or}
use Rattle.std.specs.List.{range_with_len}
use Rattle.noc_model.specs.Plan.{Plan, ports, link_channels}
use Rattle.vc_partition.specs.Lanes.{lane}

-- the channel of the input port
abbrev pub pulse_at : List (List (Option ℕ)) → ℕ → ℕ → Option ℕ
pulse_at v d port = slice_index_or (lane v d) port None

-- whether it is this one
abbrev pub is_pulse : Option ℕ → ℕ → Bool
is_pulse None c = false
is_pulse (Some k) c = k == c

-- flits left channels that there are
abbrev pub ArePulses : Plan → List (List (Option ℕ)) → Type 0
ArePulses p v = (d port c : ℕ) → d < length p.domains → pulse_at v d port ≡ Some c → c < link_channels p d

-- no flit left
abbrev pub no_pulses : Plan → List (List (Option ℕ))
no_pulses p = map (λ d. replicate (ports p) None) (range_with_len 0 (length p.domains))
