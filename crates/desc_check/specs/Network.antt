-- The plan that a draft says.
use Rattle.std.specs.Prelude.{ℕ, ◌*◌, ◌/◌, ◌%◌, Bool, ◌&&◌, List, [], length, map, codes, ℤ, pos, slice_get, Option, Some, None, if◌then◌else◌}
use Rattle.std.specs.Option.{unwrap_or}
use Rattle.std.specs.Ordering.{int_eq}
use Rattle.std.specs.List.{list_any, range_with_len, filter, position_from}
use Rattle.std.specs.Str.{bytes_eq}
use Rattle.noc_model.specs.Plan.{Plan, product}
use Rattle.noc_model.specs.declared.plan.DomainPart.{DomainPart}
use Rattle.noc_model.specs.declared.Host.{Host}
use Rattle.noc_model.specs.declared.Range.{Range}
use Rattle.noc_desc.specs.declared.Draft.{Draft}
use Rattle.noc_desc.specs.declared.DraftDomain.{DraftDomain}
use Rattle.noc_desc.specs.declared.DraftTile.{DraftTile}
use Rattle.noc_desc.specs.declared.DraftRange.{DraftRange}
use Rattle.desc_check.specs.Words.{number_of, is_among}

-- the number of tiles
abbrev pub tile_count : List ℤ → ℕ
tile_count dims = product (map number_of dims)

-- a domain of the plan, from the description's
abbrev pub domain_of : DraftDomain → DomainPart
domain_of x = record { name = x.name; channels = number_of x.channels }

-- a range of the plan, from the description's
abbrev pub range_of : DraftRange → Range
range_of x = record { tile = number_of x.tile; first = number_of x.first; last = number_of x.last }

-- the name of a domain, and none where there is no domain
abbrev pub name_in : Option DraftDomain → List ℕ
name_in None = []
name_in (Some x) = x.name

-- the name of domain d
abbrev pub name_at : List DraftDomain → ℕ → List ℕ
name_at domains d = name_in (slice_get domains d)

-- an element for the tile names the domain
abbrev pub is_hosted : List DraftTile → ℕ → List ℕ → Bool
is_hosted elements tile name = list_any (λ x. int_eq x.at (pos tile) && is_among x.domains name) elements

-- pair k of a tile and one of `count` domains, by tile, then by domain
abbrev pub pair_at : ℕ → ℕ → Host
pair_at count k = record { tile = k / count; domain = k % count }

-- the pairs of a tile and a domain that it hosts, by tile, then by domain
abbrev pub hosts_of : ℕ → List DraftDomain → List DraftTile → List Host
hosts_of tiles domains elements =
    filter (λ (h : Host). is_hosted elements h.tile (name_at domains h.domain))
    (map (pair_at (length domains)) (range_with_len 0 (tiles * length domains)))

-- the number of the first domain of this name; 0 where there is none
abbrev pub domain_number : List DraftDomain → List ℕ → ℕ
domain_number domains name = unwrap_or (position_from (λ x. bytes_eq x.name name) 0 domains) 0

-- a slot for each domain, in order, in version 1; the slots that are listed, in version 2
abbrev pub slots_of : ℤ → List DraftDomain → List (List ℕ) → List ℕ
slots_of version domains slots = if int_eq version (pos 1) then range_with_len 0 (length domains) else map
    (domain_number domains) slots

-- the plan that an accepted description describes
abbrev pub plan_of_draft : Draft → Plan
plan_of_draft d = record {
  torus = bytes_eq d.shape (codes "torus");
  dims = map number_of d.dims;
  stages = number_of d.stages;
  buffer = number_of d.buffer;
  domains = map domain_of d.domains;
  hosts = hosts_of (tile_count d.dims) d.domains d.tiles;
  ranges = map range_of d.ranges;
  slots = slots_of d.version d.domains d.slots;
}
