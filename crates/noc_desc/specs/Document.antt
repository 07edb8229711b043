-- The document that writes a draft.
use Rattle.std.specs.Prelude.{◌≡◌, ℕ, true, List, [], ◌∷◌, All}
use Rattle.std.specs.Ordering.{nat_cmp, match_ordering}
use Rattle.std.specs.Cmp.Lexicographic.{slice_cmp}
use Rattle.std.specs.Str.{is_utf8}
use Rattle.toml.specs.Data.{Data, integer, string, array, table, Items, no_items, item, Members, no_members, member}
use Rattle.noc_desc.specs.declared.DraftDomain.{DraftDomain}
use Rattle.noc_desc.specs.declared.DraftTile.{DraftTile}
use Rattle.noc_desc.specs.declared.DraftRange.{DraftRange}
use Rattle.noc_desc.specs.declared.Draft.{Draft}
use Rattle.noc_desc.specs.declared.keys.Key.{Key}
use Rattle.noc_desc.specs.declared.keys.Key.TheVariants.{Version, Shape, Dims, Stages, Buffer, Domains, Tiles, Ranges, Slots, Name, Channels, At, Hosts, InTile, First, Last}
use Rattle.noc_desc.specs.Keys.{name}

-- the members, and a value at a key, in the order of the keys
abbrev pub put_member : List ℕ → Data → Members → Members
put_member k d no_members = member k d no_members
put_member k d (member l e more) = match_ordering (slice_cmp nat_cmp k l) (member k d (member l e more))
    (member l d more) (member l e (put_member k d more))

-- the members, and a value at a key of a description
abbrev pub put : Key → Data → Members → Members
put key d members = put_member (name key) d members

-- the data of each, as an array
abbrev pub items_by : {A : Type 0} → (A → Data) → List A → Items
items_by f [] = no_items
items_by f (x ∷ xs) = item (f x) (items_by f xs)

-- an array, entry by entry
abbrev pub array_by : {A : Type 0} → (A → Data) → List A → Data
array_by f xs = array (items_by f xs)

-- the members of a domain's table
abbrev pub domain_members : DraftDomain → Members
domain_members d = put Name (string d.name) (put Channels (integer d.channels) no_members)

-- the table of a domain
abbrev pub domain_data : DraftDomain → Data
domain_data d = table (domain_members d)

-- the members of a tile's table
abbrev pub tile_members : DraftTile → Members
tile_members t = put Hosts (array_by string t.domains) (put At (integer t.at) no_members)

-- the table of a tile
abbrev pub tile_data : DraftTile → Data
tile_data t = table (tile_members t)

-- the members of a range's table
abbrev pub range_members : DraftRange → Members
range_members r = put InTile (integer r.tile) (put Last (integer r.last) (put First (integer r.first) no_members))

-- the table of a range
abbrev pub range_data : DraftRange → Data
range_data r = table (range_members r)

-- the numbers and the texts of a draft, and its lists
abbrev pub sizes_of : Draft → Members
sizes_of d =
    put Version (integer d.version) (put Shape (string d.shape) (put Dims (array_by integer d.dims)
    (put Stages (integer d.stages) (put Buffer (integer d.buffer) no_members))))

-- the members, and the lists of the description at their keys
abbrev pub lists_of : Draft → Members → Members
lists_of d members =
    put Slots (array_by string d.slots) (put Ranges (array_by range_data d.ranges)
    (put Tiles (array_by tile_data d.tiles) (put Domains (array_by domain_data d.domains) members)))

-- the table that has the values of a draft of version 2
abbrev pub document : Draft → Members
document d = lists_of d (sizes_of d)

-- the texts of a draft are texts, in UTF-8
pub record AreTexts (d : Draft) : Type 0 where
  pub shape : is_utf8 d.shape ≡ true
  pub names : All (λ x. is_utf8 x.name ≡ true) d.domains
  pub hosts : All (λ x. All (λ n. is_utf8 n ≡ true) x.domains) d.tiles
  pub slots : All (λ n. is_utf8 n ≡ true) d.slots
