-- Tables and arrays that are made value by value.
use Rattle.std.proofs.Common.{◌≡◌, ℕ, zero, suc, ◌+◌, ◌<◌, ◌≤◌, List, Vec, [], ◌∷◌, ◌++◌, length, get_or, take, refl, ap, ◌∙◌, arith, if◌then◌else◌, Ordering, Less, Equal, Greater, String, Global, string_bytes}
use Rattle.std.specs.Ordering.{match_ordering}
use Rattle.std.specs.String.{string_cmp}
use Rattle.std.specs.BTreeMap.{insert_entry}
use Rattle.std.specs.Prelude.{Some, None}
use Rattle.std.specs.Str.{IsUtf8}
use Rattle.std.proofs.lemmas.Str.{is_utf8-from_IsUtf8}
use Rattle.std.proofs.lemmas.List.{take_all}
use Rattle.toml.specs.Data.{Data, integer, string, array, item, push_item, Members, member, depth, items_depth, members_depth}
use Rattle.toml.specs.Parse.{parse_document}
use Rattle.toml.specs.View.{view, items_view, members_view}
use Rattle.toml.specs.declared.value.Value.{Value, Array}
use Rattle.toml.proofs.Views.{Entry, items_view-push, view-Array}
use Rattle.noc_desc.specs.declared.Draft.{Draft}
use Rattle.noc_desc.specs.declared.DraftTile.{DraftTile}
use Rattle.noc_desc.specs.Draft.{table_of}
use Rattle.noc_desc.specs.Document.{put_member, items_by, array_by, domain_data, tile_data, range_data, document}

put-at : (o : Ordering) (k : String Global) (v : Value) (e : Entry) (es : List Entry)
    → members_view (insert_entry string_cmp es k v) ≡ put_member (string_bytes k) (view v) (members_view es)
    → members_view (match_ordering o ((k, v) ∷ e ∷ es) ((e.0, v) ∷ es) (e ∷ insert_entry string_cmp es k v))
    ≡ match_ordering o (member (string_bytes k) (view v) (member (string_bytes e.0) (view e.1) (members_view es))) (member (string_bytes e.0) (view v) (members_view es))
    (member (string_bytes e.0) (view e.1) (put_member (string_bytes k) (view v) (members_view es)))
put-at Less k v e es ih = refl
put-at Equal k v e es ih = refl
put-at Greater k v e es ih = ap (member (string_bytes e.0) (view e.1)) ih

-- a value put into a table is put among its members
pub put-is : (es : List Entry) (k : String Global) (v : Value)
    → members_view (insert_entry string_cmp es k v) ≡ put_member (string_bytes k) (view v) (members_view es)
put-is [] k v = refl
put-is (e ∷ es) k v = put-at (string_cmp k e.0) k v e es (put-is es k v)

by-more : {A : Type 0} (f : A → Data) (xs : List A) (i : ℕ) (z : A) → i < length xs
    → push_item (items_by f (take i xs)) (f (get_or xs i z)) ≡ items_by f (take (i + 1) xs)
by-more f [] i z less = absurd (omega (arith, less))
by-more f (x ∷ xs) zero z less = refl
by-more f (x ∷ xs) (suc i) z less =
    let e : suc i + 1 ≡ suc (i + 1) = omega arith in
    rw e (ap (item (f x)) (by-more f xs i z (omega (arith, less))))

-- one element more
pub array-more : {A : Type 0} (f : A → Data) (xs : List A) (i : ℕ) (z : A) (vs : List Value) (v : Value) → i < length xs
    → items_view vs ≡ items_by f (take i xs) → view v ≡ f (get_or xs i z)
    → items_view (vs ++ v ∷ []) ≡ items_by f (take (i + 1) xs)
array-more f xs i z vs v less so_far is =
    items_view-push vs v ∙ ap (λ t. push_item t (view v)) so_far ∙ ap (push_item (items_by f (take i xs))) is
    ∙ by-more f xs i z less

-- all elements
pub array-whole : {A : Type 0} (f : A → Data) (xs : List A) (i : ℕ) (v : Vec Value Global) → length xs ≤ i
    → items_view v.items ≡ items_by f (take i xs) → view (Array v) ≡ array_by f xs
array-whole f xs i v past so_far = view-Array v ∙ ap array (so_far ∙ ap (items_by f) (take_all i xs past))

-- ---- how deep a document nests

by-depth : {A : Type 0} (f : A → Data) (n : ℕ) → ((x : A) → depth (f x) ≤ n) → (xs : List A)
    → items_depth (items_by f xs) ≤ n
by-depth f n each [] = omega arith
by-depth f n each (x ∷ xs) = (let a = each x in let b = by-depth f n each xs in omega (arith, a, b))

tile-depth : (t : DraftTile) → depth (tile_data t) ≤ 2
tile-depth t = (let a = by-depth string 0 (λ x. omega arith) t.domains in omega (arith, a))

document-depth : (d : Draft) → members_depth (document d) ≤ 3
document-depth d =
    let dims = by-depth integer 0 (λ x. omega arith) d.dims in
    let domains = by-depth domain_data 1 (λ x. omega arith) d.domains in
    let tiles = by-depth tile_data 2 tile-depth d.tiles in
    let ranges = by-depth range_data 1 (λ x. omega arith) d.ranges in
    let slots = by-depth string 0 (λ x. omega arith) d.slots in
    omega (arith, dims, domains, tiles, ranges, slots)

-- ---- the text of a document

-- what is written has the draft's table
pub table-written : (bytes : List ℕ) (members : Members) (d : Draft) → IsUtf8 bytes
    → (members_depth members ≤ 80 → parse_document bytes ≡ Some members) → members ≡ document d
    → table_of bytes ≡ Some (document d)
unfolding table_of
table-written bytes members d text reads is =
    let shallow : members_depth members ≤ 80 = rw is (let a = document-depth d in omega (arith, a)) in
    ap (λ b. if b then parse_document bytes else None) (is_utf8-from_IsUtf8 bytes text) ∙ reads shallow ∙ ap Some is
