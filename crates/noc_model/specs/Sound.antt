-- What holds of every accepted plan.
use Rattle.std.specs.Prelude.{◌≡◌, ◌≢◌, ℕ, ◌^◌, ◌<◌, ◌≤◌, ◌⊎◌, List, length, All, AllPairs, Contains}
use Rattle.noc_model.specs.declared.plan.DomainPart.{DomainPart}
use Rattle.noc_model.specs.declared.Host.{Host}
use Rattle.noc_model.specs.declared.Range.{Range}
use Rattle.noc_model.specs.Limits.{most_sides, most_side, most_name, most_tiles, most_stages, most_buffer, most_domains, most_channels, most_hosts, most_ranges, most_places, most_slots}
use Rattle.noc_model.specs.Plan.{Plan, tiles, places}

-- one or more tiles along each side, and not too many
abbrev pub AreSides : List ℕ → Type 0
AreSides ks = All (λ k. (1 ≤ k) × (k ≤ most_side)) ks

-- the channels of each class, of each domain
abbrev pub HaveChannels : List DomainPart → Type 0
HaveChannels xs = All (λ (x : DomainPart). (1 ≤ x.channels) × (x.channels ≤ most_channels)) xs

-- a digit, a letter, `_` or `-`, in ASCII
abbrev pub IsNameByte : ℕ → Type 0
IsNameByte b = ((48 ≤ b) × (b ≤ 57)) ⊎ ((65 ≤ b) × (b ≤ 90)) ⊎ ((97 ≤ b) × (b ≤ 122)) ⊎ (b ≡ 95) ⊎ (b ≡ 45)

-- one byte or more of a name, and not too many
abbrev pub IsName : List ℕ → Type 0
IsName bs = (1 ≤ length bs) × (length bs ≤ most_name) × All IsNameByte bs

-- by tile, then by domain
abbrev pub IsBefore : Host → Host → Type 0
IsBefore h k = (h.tile < k.tile) ⊎ ((h.tile ≡ k.tile) × (h.domain < k.domain))

-- a range of a tile of n, with at least one address, and none of more than 32 bits
abbrev pub IsRangeIn : ℕ → Range → Type 0
IsRangeIn n r = (r.tile < n) × (r.first ≤ r.last) × (r.last < 2 ^ 32)

-- no address is in both
abbrev pub AreApart : Range → Range → Type 0
AreApart q r = (q.last < r.first) ⊎ (r.last < q.first)

-- what holds of an accepted plan: its sizes are in their limits, its lists in order, and each domain owns a slot
pub record IsSound (p : Plan) : Type 0 where
  pub dims : (1 ≤ length p.dims) × (length p.dims ≤ most_sides)
  pub sides : AreSides p.dims
  pub tile_count : tiles p ≤ most_tiles
  pub stages : (1 ≤ p.stages) × (p.stages ≤ most_stages)
  pub buffer : (1 ≤ p.buffer) × (p.buffer ≤ most_buffer)
  pub domains : (1 ≤ length p.domains) × (length p.domains ≤ most_domains)
  pub names : All (λ (x : DomainPart). IsName x.name) p.domains
  -- no two domains have one name
  pub names_apart : AllPairs (λ (x y : DomainPart). x.name ≢ y.name) p.domains
  pub channels : HaveChannels p.domains
  pub hosts : All (λ (h : Host). (h.tile < tiles p) × (h.domain < length p.domains)) p.hosts
  pub hosts_in_order : AllPairs IsBefore p.hosts
  pub host_count : length p.hosts ≤ most_hosts
  pub ranges : All (IsRangeIn (tiles p)) p.ranges
  pub ranges_apart : AllPairs AreApart p.ranges
  pub range_count : length p.ranges ≤ most_ranges
  pub place_count : places p ≤ most_places
  pub slot_count : (1 ≤ length p.slots) × (length p.slots ≤ most_slots)
  pub slots : All (λ d. d < length p.domains) p.slots
  -- each domain owns a slot
  pub each_has_slot : (d : ℕ) → d < length p.domains → Contains p.slots d
