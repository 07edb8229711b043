-- The values of a table, each read as what a description has there. A key that is absent, or of another form, reads
-- as nothing: 0 or an empty list.
use Rattle.std.specs.Prelude.{ℕ, ℤ, pos, List, [], ◌∷◌, Option, Some}
use Rattle.toml.specs.Data.{Data, integer, string, array, table, Items, no_items, item, Members}
use Rattle.noc_desc.specs.declared.DraftDomain.{DraftDomain}
use Rattle.noc_desc.specs.declared.DraftTile.{DraftTile}
use Rattle.noc_desc.specs.declared.DraftRange.{DraftRange}
use Rattle.noc_desc.specs.declared.Draft.{Draft}
use Rattle.noc_desc.specs.declared.keys.Key.{Key}
use Rattle.noc_desc.specs.declared.keys.Key.TheVariants.{Version, Shape, Dims, Stages, Buffer, Domains, Tiles, Ranges, Slots, Name, Channels, At, Hosts, InTile, First, Last}
use Rattle.noc_desc.specs.Keys.{value_at}

-- an integer's number
abbrev pub number : Option Data → ℤ
number (Some (integer z)) = z
number _ = pos 0

-- a string's bytes
abbrev pub text : Option Data → List ℕ
text (Some (string bytes)) = bytes
text _ = []

-- an array's elements
abbrev pub elements : Option Data → Items
elements (Some (array items)) = items
elements _ = no_items

-- the integers among some elements
abbrev pub numbers : Items → List ℤ
numbers no_items = []
numbers (item (integer z) more) = z ∷ numbers more
numbers (item _ more) = numbers more

-- the strings among some elements
abbrev pub texts : Items → List (List ℕ)
texts no_items = []
texts (item (string bytes) more) = bytes ∷ texts more
texts (item _ more) = texts more

-- the number, the bytes and the elements at a key
abbrev pub number_at : Key → Members → ℤ
number_at key members = number (value_at key members)

-- the text of a key
abbrev pub text_at : Key → Members → List ℕ
text_at key members = text (value_at key members)

-- the elements of a key's array
abbrev pub elements_at : Key → Members → Items
elements_at key members = elements (value_at key members)

-- a domain's table
abbrev pub domain : Members → DraftDomain
domain members = record { name = text_at Name members; channels = number_at Channels members }

-- a tile's table
abbrev pub tile : Members → DraftTile
tile members = record { at = number_at At members; domains = texts (elements_at Hosts members) }

-- a range's table
abbrev pub range : Members → DraftRange
range members = record {
  tile = number_at InTile members;
  first = number_at First members;
  last = number_at Last members;
}

-- the domains among some elements
abbrev pub domains : Items → List DraftDomain
domains no_items = []
domains (item (table members) more) = domain members ∷ domains more
domains (item _ more) = domains more

-- the tiles among some elements
abbrev pub tiles : Items → List DraftTile
tiles no_items = []
tiles (item (table members) more) = tile members ∷ tiles more
tiles (item _ more) = tiles more

-- the ranges among some elements
abbrev pub ranges : Items → List DraftRange
ranges no_items = []
ranges (item (table members) more) = range members ∷ ranges more
ranges (item _ more) = ranges more

-- the values of a description's table
abbrev pub draft_at : Members → Draft
draft_at members = record {
  version = number_at Version members;
  shape = text_at Shape members;
  dims = numbers (elements_at Dims members);
  stages = number_at Stages members;
  buffer = number_at Buffer members;
  domains = domains (elements_at Domains members);
  tiles = tiles (elements_at Tiles members);
  ranges = ranges (elements_at Ranges members);
  slots = texts (elements_at Slots members);
}
