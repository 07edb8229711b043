-- The tables of a description, and what each has to have.
use Rattle.std.specs.Prelude.{ℕ, Bool, true, false, not, ◌&&◌, List, [], ◌∷◌, Option, Some, None, is_some, is_none, codes}
use Rattle.std.specs.List.{list_any}
use Rattle.std.specs.Str.{bytes_eq}
use Rattle.toml.specs.Data.{Data, array, Items, no_items, item, Members, get_member, as_integer, as_str, as_table}
use Rattle.noc_desc.specs.declared.keys.Kind.{Kind}
use Rattle.noc_desc.specs.declared.keys.Kind.TheVariants.{Top, WeightedTop, Domain, Tile, Range}
use Rattle.noc_desc.specs.declared.keys.Key.{Key}
use Rattle.noc_desc.specs.declared.keys.Key.TheVariants.{Version, Shape, Dims, Stages, Buffer, Domains, Tiles, Ranges, Slots, Name, Channels, At, Hosts, InTile, First, Last}
use Rattle.noc_desc.specs.declared.keys.Element.{Element}
use Rattle.noc_desc.specs.declared.keys.Element.TheVariants.{Integer, Text, Table}
use Rattle.noc_desc.specs.declared.keys.Form.{Form}
use Rattle.noc_desc.specs.declared.keys.Form.TheVariants.{One, Array}

-- the keys of a table of this kind, by number
abbrev pub keys : Kind → List Key
keys Top = Version ∷ Shape ∷ Dims ∷ Stages ∷ Buffer ∷ Domains ∷ Tiles ∷ Ranges ∷ []
keys WeightedTop = Version ∷ Shape ∷ Dims ∷ Stages ∷ Buffer ∷ Domains ∷ Tiles ∷ Ranges ∷ Slots ∷ []
keys Domain = Name ∷ Channels ∷ []
keys Tile = At ∷ Hosts ∷ []
keys Range = InTile ∷ First ∷ Last ∷ []

-- how a key is written
abbrev pub name : Key → List ℕ
name Version = codes "version"
name Shape = codes "shape"
name Dims = codes "dims"
name Stages = codes "stages"
name Buffer = codes "buffer"
name Domains = codes "domain"
name Tiles = codes "tile"
name Ranges = codes "range"
name Slots = codes "slots"
name Name = codes "name"
name Channels = codes "channels"
name At = codes "at"
name Hosts = codes "domains"
name InTile = codes "tile"
name First = codes "first"
name Last = codes "last"

-- what a key's value is
abbrev pub form_of : Key → Form
form_of Version = One Integer
form_of Shape = One Text
form_of Dims = Array Integer
form_of Stages = One Integer
form_of Buffer = One Integer
form_of Domains = Array Table
form_of Tiles = Array Table
form_of Ranges = Array Table
form_of Slots = Array Text
form_of Name = One Text
form_of Channels = One Integer
form_of At = One Integer
form_of Hosts = Array Text
form_of InTile = One Integer
form_of First = One Integer
form_of Last = One Integer

-- the key has to be there
abbrev pub is_required : Key → Bool
is_required Tiles = false
is_required Ranges = false
is_required _ = true

-- a table of this kind has a key that is written so
abbrev pub is_listed : Kind → List ℕ → Bool
is_listed kind written = list_any (λ key. bytes_eq written (name key)) (keys kind)

-- the value at a key
abbrev pub value_at : Key → Members → Option Data
value_at key members = get_member (name key) members

-- the value is an integer, a string or a table
abbrev pub fits_element : Element → Data → Bool
fits_element Integer d = is_some (as_integer d)
fits_element Text d = is_some (as_str d)
fits_element Table d = is_some (as_table d)

-- each value is such an element
abbrev pub all_fit : Element → Items → Bool
all_fit e no_items = true
all_fit e (item d more) = fits_element e d && all_fit e more

-- the value is such an element, or an array of them
abbrev pub fits : Form → Data → Bool
fits (One e) d = fits_element e d
fits (Array e) (array items) = all_fit e items
fits (Array e) _ = false

-- a value was found, and is of another form
abbrev pub other_form : Form → Option Data → Bool
other_form form None = false
other_form form (Some d) = not (fits form d)

-- the key has to be there, and is absent
abbrev pub is_missing : Members → Key → Bool
is_missing members key = is_required key && is_none (value_at key members)

-- the key is there, with a value of another form
abbrev pub is_misfit : Members → Key → Bool
is_misfit members key = other_form (form_of key) (value_at key members)
