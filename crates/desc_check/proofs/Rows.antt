-- Drafts in the small, computed: first faults, and the plan of a draft without one.
use Rattle.std.proofs.Common.{◌≡◌, ℕ, pos, List, [], ◌∷◌, Some, None, codes, refl}
use Rattle.std.specs.Fmt.{digits}
use Rattle.noc_desc.specs.declared.Draft.{Draft}
use Rattle.noc_desc.specs.declared.DraftDomain.{DraftDomain}
use Rattle.noc_desc.specs.declared.DraftTile.{DraftTile}
use Rattle.noc_desc.specs.declared.DraftRange.{DraftRange}
use Rattle.noc_desc.specs.declared.DescFault.TheVariants.{Shape, Dims, DomainTwice, HostUnknown, TileTwice, RangeOverlap, PlacesMany, SlotCount, SlotUnknown, SlotMissing}
use Rattle.desc_check.specs.Network.{hosts_of, slots_of}
use Rattle.desc_check.specs.Faults.{is_in_order, overlaps_later}
use Rattle.desc_check.specs.Accepted.{first_fault}
use Rattle.desc_check.specs.Line.{line_of}

abbrev domain : List ℕ → DraftDomain
domain name = record { name = name; channels = pos 1 }

abbrev both : List DraftDomain
both = domain (codes "a") ∷ domain (codes "b") ∷ []

abbrev on_both : List DraftTile
on_both =
    record { at = pos 0; domains = codes "a" ∷ codes "b" ∷ [] } ∷ record { at = pos 1; domains = codes "a" ∷ codes "b" ∷ [] } ∷ []

abbrev low : DraftRange
low = record { tile = pos 0; first = pos 0; last = pos 255 }

abbrev high : ℕ → DraftRange
high first = record { tile = pos 1; first = pos first; last = pos 511 }

-- two domains on two tiles
abbrev two_tiles : Draft
two_tiles = record {
  version = pos 1;
  shape = codes "mesh";
  dims = pos 2 ∷ [];
  stages = pos 1;
  buffer = pos 2;
  domains = both;
  tiles = on_both;
  ranges = low ∷ high 256 ∷ [];
  slots = [];
}

no_fault : first_fault two_tiles ≡ None
unfolding is_in_order overlaps_later
no_fault = refl

-- the attachments are by tile, then by domain, whatever the order of the draft
in_order : hosts_of 2 both (record { at = pos 1; domains = codes "b" ∷ codes "a" ∷ [] } ∷ record { at = pos 0; domains = codes "b" ∷ [] } ∷ []) ≡ record { tile = 0; domain = 1 } ∷ record { tile = 1; domain = 0 } ∷ record { tile = 1; domain = 1 } ∷ []
in_order = refl

own_slots : slots_of (pos 1) both [] ≡ 0 ∷ 1 ∷ []
own_slots = refl

listed_slots : slots_of (pos 2) both (codes "b" ∷ codes "a" ∷ codes "b" ∷ []) ≡ 1 ∷ 0 ∷ 1 ∷ []
listed_slots = refl

-- a fault of smaller number comes first
shape_first : first_fault (record two_tiles { shape = codes "ring"; buffer = pos 0 }) ≡ Some Shape
unfolding is_in_order overlaps_later
shape_first = refl

three_sides : first_fault (record two_tiles { dims = pos 1 ∷ pos 1 ∷ pos 1 ∷ [] }) ≡ Some Dims
unfolding is_in_order overlaps_later
three_sides = refl

one_name : first_fault (record two_tiles { domains = domain (codes "a") ∷ domain (codes "a") ∷ [] }) ≡ Some (DomainTwice 0 1)
unfolding is_in_order overlaps_later
one_name = refl

-- the least pair: the first element that has a partner, and the least partner
one_tile : first_fault (record two_tiles { tiles = record { at = pos 0; domains = [] } ∷ record { at = pos 1; domains = [] } ∷ record { at = pos 1; domains = [] } ∷ record { at = pos 0; domains = [] } ∷ [] }) ≡ Some (TileTwice 0 3)
unfolding is_in_order overlaps_later
one_tile = refl

touching : first_fault (record two_tiles { ranges = low ∷ high 255 ∷ [] }) ≡ Some (RangeOverlap 0 1)
unfolding is_in_order overlaps_later
touching = refl

unknown_host : first_fault (record two_tiles { tiles = record { at = pos 0; domains = codes "x" ∷ codes "b" ∷ [] } ∷ []; ranges = low ∷ high 128 ∷ [] }) ≡ Some (HostUnknown 0 0)
unfolding is_in_order overlaps_later
unknown_host = refl

no_slots : first_fault (record two_tiles { version = pos 2 }) ≡ Some SlotCount
unfolding is_in_order overlaps_later
no_slots = refl

unknown_slot : first_fault (record two_tiles { version = pos 2; slots = codes "a" ∷ codes "b" ∷ codes "c" ∷ [] }) ≡ Some (SlotUnknown 2)
unfolding is_in_order overlaps_later
unknown_slot = refl

missing_slot : first_fault (record two_tiles { version = pos 2; slots = codes "a" ∷ [] }) ≡ Some (SlotMissing 1)
unfolding is_in_order overlaps_later
missing_slot = refl

-- lines
line_of_places : line_of (PlacesMany 25600) ≡ codes "surf: description fault 21 25600\n"
unfolding digits
line_of_places = refl

line_of_host : line_of (HostUnknown 0 10) ≡ codes "surf: description fault 16 0 10\n"
unfolding digits
line_of_host = refl
