-- What is wrong with a description's tables: the first fault is the one of the least number, and of these the one at
-- the least place.
use Rattle.std.specs.Prelude.{ℕ, ◌+◌, pos, List, [], ◌∷◌, ◌++◌, Option, Some, None, option_map, if◌then◌else◌}
use Rattle.std.specs.Ordering.{int_eq}
use Rattle.std.specs.List.{position_from}
use Rattle.std.specs.Option.{option_or}
use Rattle.toml.specs.Data.{table, Items, no_items, item, Members, no_members, member}
use Rattle.noc_desc.specs.declared.DescFault.{DescFault}
use Rattle.noc_desc.specs.declared.DescFault.TheVariants.{KeyUnknown, KeyMissing, KeyKind}
use Rattle.noc_desc.specs.declared.keys.Kind.{Kind}
use Rattle.noc_desc.specs.declared.keys.Kind.TheVariants.{Top, WeightedTop, Domain, Tile, Range}
use Rattle.noc_desc.specs.declared.keys.Key.TheVariants.{Version, Domains, Tiles, Ranges}
use Rattle.noc_desc.specs.declared.faults.Flaw.{Flaw}
use Rattle.noc_desc.specs.declared.faults.Flaw.TheVariants.{Unknown, Missing, Misfit}
use Rattle.noc_desc.specs.Keys.{keys, is_listed, is_missing, is_misfit}
use Rattle.noc_desc.specs.Values.{number_at, elements_at}

-- a table of a description: its kind, its number among the elements of its array, and what it has
pub record Place : Type 0 where
  pub kind : Kind
  pub element : ℕ
  pub members : Members

-- the kind of the whole document's table: a table of version 2 has the slots too
abbrev pub top_kind : Members → Kind
top_kind members = if int_eq (number_at Version members) (pos 2) then WeightedTop else Top

-- the tables among an array's elements, which are counted from n
abbrev pub element_tables : Kind → ℕ → Items → List Place
element_tables kind n no_items = []
element_tables kind n (item (table members) more) =
    record { kind = kind; element = n; members = members } ∷ element_tables kind (n + 1) more
element_tables kind n (item _ more) = element_tables kind (n + 1) more

-- the tables of a description: the whole, then the domains, the tiles and the ranges
abbrev pub tables : Members → List Place
tables members =
    record { kind = top_kind members; element = 0; members = members }
    ∷ (element_tables Domain 0 (elements_at Domains members)
    ++ (element_tables Tile 0 (elements_at Tiles members)
    ++ element_tables Range 0 (elements_at Ranges members)))

-- the number of a kind of table
abbrev pub kind_number : Kind → ℕ
kind_number Top = 0
kind_number WeightedTop = 0
kind_number Domain = 1
kind_number Tile = 2
kind_number Range = 3

-- the first of the table's own keys that is not listed, counted from n
abbrev pub unlisted_from : Kind → ℕ → Members → Option ℕ
unlisted_from kind n no_members = None
unlisted_from kind n (member key d more) = if is_listed kind key then unlisted_from kind (n + 1) more else Some n

-- the least number of a key with the flaw
abbrev pub flawed_key : Flaw → Kind → Members → Option ℕ
flawed_key Unknown kind members = unlisted_from kind 0 members
flawed_key Missing kind members = position_from (is_missing members) 0 (keys kind)
flawed_key Misfit kind members = position_from (is_misfit members) 0 (keys kind)

-- the fault that a flaw is, at this kind, element and key
abbrev pub fault_at : Flaw → ℕ → ℕ → ℕ → DescFault
fault_at Unknown kind element key = KeyUnknown kind element key
fault_at Missing kind element key = KeyMissing kind element key
fault_at Misfit kind element key = KeyKind kind element key

-- the first fault of one flaw in one table
abbrev pub place_fault : Flaw → Place → Option DescFault
place_fault flaw place = option_map (fault_at flaw (kind_number place.kind) place.element)
    (flawed_key flaw place.kind place.members)

-- the first answer that there is
abbrev pub first_some : {A B : Type 0} → (A → Option B) → List A → Option B
first_some f [] = None
first_some f (x ∷ xs) = option_or (f x) (first_some f xs)

-- the first fault of the tables: by flaw, then by table
abbrev pub table_fault : Members → Option DescFault
table_fault members = first_some (λ flaw. first_some (place_fault flaw) (tables members))
    (Unknown ∷ Missing ∷ Misfit ∷ [])
