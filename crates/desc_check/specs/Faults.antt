-- What is wrong with a draft, fault by fault: each by the least index, or the least pair of indices, at which it holds.
use Rattle.std.specs.Prelude.{ℕ, Bool, not, ◌&&◌, ◌||◌, nat_le, nat_lt, List, length, take, codes, ℤ, pos, int_le, if◌then◌else◌, Option}
use Rattle.std.specs.Ordering.{int_eq}
use Rattle.std.specs.List.{list_all}
use Rattle.std.specs.Str.{bytes_eq}
use Rattle.noc_desc.specs.declared.DescFault.{DescFault}
use Rattle.noc_desc.specs.declared.DescFault.TheVariants.{Version, Shape, Dims, Stages, Buffer, DomainCount, DomainName, DomainTwice, Channels, TileRange, TileTwice, HostUnknown, HostTwice, RangeTile, RangeOrder, RangeOverlap, PlacesMany, AttachMany, SlotCount, SlotUnknown, SlotMissing}
use Rattle.noc_desc.specs.declared.DraftDomain.{DraftDomain}
use Rattle.noc_desc.specs.declared.DraftTile.{DraftTile}
use Rattle.noc_desc.specs.declared.DraftRange.{DraftRange}
use Rattle.desc_check.specs.Words.{is_between, is_within, is_below, is_name, is_domain, is_among, fault_if, first_at}
use Rattle.desc_check.specs.Network.{tile_count}
use Rattle.noc_model.specs.Limits.{most_sides, most_side, most_tiles, most_stages, most_buffer, most_domains, most_channels, most_hosts, most_ranges, most_places, most_slots}

-- ---- the form of the network

-- the version is neither 1 nor 2
abbrev pub version_fault : ℤ → Option DescFault
version_fault version = fault_if (not (is_within 1 2 version)) Version

-- the shape is neither a mesh nor a torus
abbrev pub shape_fault : List ℕ → Option DescFault
shape_fault shape = fault_if (not (bytes_eq shape (codes "mesh") || bytes_eq shape (codes "torus"))) Shape

-- how many sides a version may have
abbrev pub sides_allowed : ℤ → ℕ
sides_allowed version = if int_eq version (pos 1) then 2 else most_sides

-- one side or more, each within its limits, with not too many tiles in all
abbrev pub has_sides : ℤ → List ℤ → Bool
has_sides version dims = is_between 1 (sides_allowed version) (length dims) && list_all (is_within 1 most_side) dims
    && nat_le (tile_count dims) most_tiles

-- the fault of the sides, in a description of this version
abbrev pub dims_fault : ℤ → List ℤ → Option DescFault
dims_fault version dims = fault_if (not (has_sides version dims)) Dims

-- a link has no register, or too many
abbrev pub stages_fault : ℤ → Option DescFault
stages_fault stages = fault_if (not (is_within 1 most_stages stages)) Stages

-- a channel's buffer holds no flit, or too many
abbrev pub buffer_fault : ℤ → Option DescFault
buffer_fault buffer = fault_if (not (is_within 1 most_buffer buffer)) Buffer

-- ---- the domains

-- there is no domain, or there are too many
abbrev pub domain_count_fault : List DraftDomain → Option DescFault
domain_count_fault domains = fault_if (not (is_between 1 most_domains (length domains))) DomainCount

-- the first domain without a good name
abbrev pub domain_name_fault : List DraftDomain → Option DescFault
domain_name_fault domains = first_at (λ i x. fault_if (not (is_name x.name)) (DomainName i)) 0 domains

-- domain i has the name of a later domain: the first such
abbrev pub same_name_fault : List DraftDomain → ℕ → DraftDomain → Option DescFault
same_name_fault domains i x = first_at (λ j y. fault_if (nat_lt i j && bytes_eq x.name y.name) (DomainTwice i j)) 0
    domains

-- the first pair of domains with one name
abbrev pub domain_twice_fault : List DraftDomain → Option DescFault
domain_twice_fault domains = first_at (same_name_fault domains) 0 domains

-- the first domain without a channel, or with too many
abbrev pub channels_fault : List DraftDomain → Option DescFault
channels_fault domains = first_at (λ i x. fault_if (not (is_within 1 most_channels x.channels)) (Channels i)) 0 domains

-- ---- the tiles

-- the first element for no tile
abbrev pub tile_range_fault : ℕ → List DraftTile → Option DescFault
tile_range_fault tiles elements = first_at (λ i x. fault_if (not (is_below tiles x.at)) (TileRange i)) 0 elements

-- element i is for the tile of a later element: the first such
abbrev pub same_tile_fault : List DraftTile → ℕ → DraftTile → Option DescFault
same_tile_fault elements i x = first_at (λ j y. fault_if (nat_lt i j && int_eq x.at y.at) (TileTwice i j)) 0 elements

-- the first pair of elements for one tile
abbrev pub tile_twice_fault : List DraftTile → Option DescFault
tile_twice_fault elements = first_at (same_tile_fault elements) 0 elements

-- the first name of element i that is no domain's
abbrev pub unknown_name_fault : List DraftDomain → ℕ → DraftTile → Option DescFault
unknown_name_fault domains i x = first_at (λ k name. fault_if (not (is_domain domains name)) (HostUnknown i k)) 0
    x.domains

-- the first name of an element that is no domain's
abbrev pub host_unknown_fault : List DraftDomain → List DraftTile → Option DescFault
host_unknown_fault domains elements = first_at (unknown_name_fault domains) 0 elements

-- the first name of element i that is an earlier one of the same element
abbrev pub repeated_name_fault : ℕ → DraftTile → Option DescFault
repeated_name_fault i x = first_at (λ k name. fault_if (is_among (take k x.domains) name) (HostTwice i k)) 0 x.domains

-- the first name of an element that is an earlier one of the same element
abbrev pub host_twice_fault : List DraftTile → Option DescFault
host_twice_fault elements = first_at repeated_name_fault 0 elements

-- ---- the ranges

-- the first range of no tile, or beyond the most ranges
abbrev pub range_tile_fault : ℕ → List DraftRange → Option DescFault
range_tile_fault tiles ranges = first_at
    (λ i x. fault_if (not (is_below tiles x.tile) || nat_le most_ranges i) (RangeTile i)) 0 ranges

-- addresses of 32 bits, the first not above the last
unfoldable pub is_in_order : DraftRange → Bool
is_in_order x = int_le (pos 0) x.first && int_le x.first x.last && int_le x.last (pos 4294967295)

-- the first range whose addresses are not in order
abbrev pub range_order_fault : List DraftRange → Option DescFault
range_order_fault ranges = first_at (λ i x. fault_if (not (is_in_order x)) (RangeOrder i)) 0 ranges

-- an address is in both, where each has its addresses in order
abbrev pub overlaps : DraftRange → DraftRange → Bool
overlaps x y = int_le x.first y.last && int_le y.first x.last

-- range j comes after range i, and overlaps it
unfoldable pub overlaps_later : ℕ → DraftRange → ℕ → DraftRange → Bool
overlaps_later i x j y = nat_lt i j && overlaps x y

-- range i overlaps a later range: the first such
abbrev pub overlap_fault : List DraftRange → ℕ → DraftRange → Option DescFault
overlap_fault ranges i x = first_at (λ j y. fault_if (overlaps_later i x j y) (RangeOverlap i j)) 0 ranges

-- the first pair of ranges that overlap
abbrev pub range_overlap_fault : List DraftRange → Option DescFault
range_overlap_fault ranges = first_at (overlap_fault ranges) 0 ranges

-- ---- the sizes

-- too many buffer slots
abbrev pub places_fault : ℕ → Option DescFault
places_fault count = fault_if (nat_lt most_places count) (PlacesMany count)

-- too many attachments
abbrev pub attach_fault : ℕ → Option DescFault
attach_fault count = fault_if (nat_lt most_hosts count) (AttachMany count)

-- ---- the slots

-- version 2 has no slot, or too many
abbrev pub slot_count_fault : ℤ → List (List ℕ) → Option DescFault
slot_count_fault version slots = fault_if (int_eq version (pos 2) && not (is_between 1 most_slots (length slots)))
    SlotCount

-- the first slot that is no domain's
abbrev pub slot_unknown_fault : List DraftDomain → List (List ℕ) → Option DescFault
slot_unknown_fault domains slots = first_at (λ i name. fault_if (not (is_domain domains name)) (SlotUnknown i)) 0 slots

-- the first domain without a slot, in version 2
abbrev pub slot_missing_fault : ℤ → List DraftDomain → List (List ℕ) → Option DescFault
slot_missing_fault version domains slots = first_at (λ i x. fault_if (int_eq version (pos 2)
    && not (is_among slots x.name)) (SlotMissing i)) 0 domains
