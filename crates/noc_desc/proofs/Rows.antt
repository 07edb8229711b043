-- Descriptions in the small, computed: the draft of a whole one, and the first faults of others.
use Rattle.std.proofs.Common.{◌≡◌, ℕ, pos, List, [], ◌∷◌, ◌++◌, Some, None, codes, refl}
use Rattle.std.specs.Str.{chars, is_utf8}
use Rattle.toml.proofs.OnLiterals.{toml_on_literals}
use Rattle.noc_desc.specs.declared.DescFault.TheVariants.{NotToml, KeyUnknown, KeyMissing, KeyKind}
use Rattle.noc_desc.specs.Draft.{table_of, draft_of, first_fault}

-- the lines before the domains
abbrev head : List ℕ
head = codes "version = 1\nshape = \"mesh\"\ndims = [2]\nstages = 1\nbuffer = 2\n"

abbrev domains : List ℕ
domains = codes "domain = [{name = \"a\", channels = 1}, {name = \"b\", channels = 1}]\n"

abbrev tiles : List ℕ
tiles = codes "tile = [{at = 0, domains = [\"a\", \"b\"]}, {at = 1, domains = [\"a\", \"b\"]}]\n"

abbrev ranges : List ℕ
ranges = codes "range = [{tile = 0, first = 0x0, last = 0xff}, {tile = 1, first = 0x100, last = 0x1ff}]\n"

abbrev slots : List ℕ
slots = codes "slots = [\"a\", \"a\", \"b\"]\n"

-- two domains on two tiles
two_tiles-draft : draft_of (head ++ domains ++ tiles ++ ranges) ≡ Some (record {
  version = pos 1;
  shape = codes "mesh";
  dims = pos 2 ∷ [];
  stages = pos 1;
  buffer = pos 2;
  domains = record { name = codes "a"; channels = pos 1 } ∷ record { name = codes "b"; channels = pos 1 } ∷ [];
  tiles = record { at = pos 0; domains = codes "a" ∷ codes "b" ∷ [] } ∷ record { at = pos 1; domains = codes "a" ∷ codes "b" ∷ [] } ∷ [];
  ranges = record { tile = pos 0; first = pos 0; last = pos 255 } ∷ record { tile = pos 1; first = pos 256; last = pos 511 } ∷ [];
  slots = [];
})
unfolding toml_on_literals chars is_utf8 table_of
two_tiles-draft = refl

two_tiles-fault : first_fault (head ++ domains ++ tiles ++ ranges) ≡ None
unfolding toml_on_literals chars is_utf8 table_of
two_tiles-fault = refl

-- tiles and ranges may be absent
domains_alone : first_fault (head ++ domains) ≡ None
unfolding toml_on_literals chars is_utf8 table_of
domains_alone = refl

-- a line more, with a key that is not listed: `buffer` and then `colour` in byte order
unlisted_key : first_fault (codes "colour = 1\n" ++ head ++ domains) ≡ Some (KeyUnknown 0 0 1)
unfolding toml_on_literals chars is_utf8 table_of
unlisted_key = refl

-- no bytes: the first key is absent
empty : first_fault [] ≡ Some (KeyMissing 0 0 0)
unfolding toml_on_literals chars is_utf8 table_of
empty = refl

-- no document, and a byte that no text has in a comment
not_toml : first_fault (codes "version = ") ≡ Some NotToml
unfolding toml_on_literals chars is_utf8 table_of
not_toml = refl

not_text : first_fault (head ++ domains ++ codes "#" ++ 0xff ∷ []) ≡ Some NotToml
unfolding toml_on_literals chars is_utf8 table_of
not_text = refl

-- elements count all of the array's, and an unlisted key comes before a value of another form
elements_count : first_fault (head ++ codes "domain = [1, {q = 1}]\n") ≡ Some (KeyUnknown 1 1 0)
unfolding toml_on_literals chars is_utf8 table_of
elements_count = refl

-- an absent key of the second tile; a value of another form in a range
tile_lacks_a_key : first_fault (head ++ domains ++ codes "tile = [{at = 0, domains = []}, {at = 1}]\n") ≡ Some (KeyMissing 2 1 1)
unfolding toml_on_literals chars is_utf8 table_of
tile_lacks_a_key = refl

range_of_text : first_fault (head ++ domains ++ codes "range = [{tile = 0, first = \"0\", last = 1}]\n") ≡ Some (KeyKind 3 0 1)
unfolding toml_on_literals chars is_utf8 table_of
range_of_text = refl

-- an array of anything may be empty; an array of tables may have nothing else
not_tables : first_fault (head ++ codes "domain = []\ntile = [1]\n") ≡ Some (KeyKind 0 0 6)
unfolding toml_on_literals chars is_utf8 table_of
not_tables = refl

-- the slots are listed, and required, where the version is the integer 2
slots_of_version_one : first_fault (head ++ domains ++ tiles ++ ranges ++ slots) ≡ Some (KeyUnknown 0 0 5)
unfolding toml_on_literals chars is_utf8 table_of
slots_of_version_one = refl

abbrev weighted_head : List ℕ
weighted_head = codes "version = 2\nshape = \"mesh\"\ndims = [2]\nstages = 1\nbuffer = 2\n"

slots_of_version_two : first_fault (weighted_head ++ domains ++ tiles ++ slots) ≡ None
unfolding toml_on_literals chars is_utf8 table_of
slots_of_version_two = refl

version_two_without_slots : first_fault (weighted_head ++ domains) ≡ Some (KeyMissing 0 0 8)
unfolding toml_on_literals chars is_utf8 table_of
version_two_without_slots = refl

slots_of_version_two_point_nought : first_fault (codes "version = 2.0\nslots = []\n") ≡ Some (KeyUnknown 0 0 0)
unfolding toml_on_literals chars is_utf8 table_of
slots_of_version_two_point_nought = refl
