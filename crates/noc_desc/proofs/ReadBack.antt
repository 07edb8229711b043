-- A written draft of version 2 has no fault, and is read as itself.
use Rattle.std.proofs.Common.{◌≡◌, ℕ, ◌+◌, ℤ, pos, List, [], ◌∷◌, ◌++◌, true, refl, ap, ◌∙◌}
use Rattle.std.specs.Prelude.{Option, Some, None, option_map}
use Rattle.std.specs.Option.{option_or}
use Rattle.toml.specs.Data.{Data, integer, string, table, Members}
use Rattle.noc_desc.specs.declared.DescFault.{DescFault}
use Rattle.noc_desc.specs.declared.DraftDomain.{DraftDomain}
use Rattle.noc_desc.specs.declared.DraftTile.{DraftTile}
use Rattle.noc_desc.specs.declared.DraftRange.{DraftRange}
use Rattle.noc_desc.specs.declared.Draft.{Draft}
use Rattle.noc_desc.specs.declared.faults.Flaw.{Flaw}
use Rattle.noc_desc.specs.declared.faults.Flaw.TheVariants.{Unknown, Missing, Misfit}
use Rattle.noc_desc.specs.declared.keys.Element.{Element}
use Rattle.noc_desc.specs.declared.keys.Element.TheVariants.{Integer, Text, Table}
use Rattle.noc_desc.specs.declared.keys.Kind.{Kind}
use Rattle.noc_desc.specs.declared.keys.Kind.TheVariants.{WeightedTop, Domain, Tile, Range}
use Rattle.noc_desc.specs.Values.{numbers, texts, domains, tiles, ranges, draft_at}
use Rattle.noc_desc.specs.Keys.{all_fit, fits_element}
use Rattle.noc_desc.specs.Faults.{Place, element_tables, tables, place_fault, first_some, table_fault}
use Rattle.noc_desc.specs.Draft.{table_of, fault_of, first_fault, draft_of}
use Rattle.noc_desc.specs.Document.{items_by, domain_members, domain_data, tile_members, tile_data, range_members, range_data, document}

-- ---- the values of a document

numbers-by : (zs : List ℤ) → numbers (items_by integer zs) ≡ zs
numbers-by [] = refl
numbers-by (z ∷ zs) = ap (λ (xs : List ℤ). z ∷ xs) (numbers-by zs)

texts-by : (xs : List (List ℕ)) → texts (items_by string xs) ≡ xs
texts-by [] = refl
texts-by (x ∷ xs) = ap (λ (ys : List (List ℕ)). x ∷ ys) (texts-by xs)

domains-by : (xs : List DraftDomain) → domains (items_by domain_data xs) ≡ xs
domains-by [] = refl
domains-by (x ∷ xs) = ap (λ (ys : List DraftDomain). x ∷ ys) (domains-by xs)

tiles-by : (xs : List DraftTile) → tiles (items_by tile_data xs) ≡ xs
tiles-by [] = refl
tiles-by (x ∷ xs) =
    ap (λ (ys : List DraftTile). record { at = x.at; domains = texts (items_by string x.domains) } ∷ ys) (tiles-by xs)
    ∙ ap (λ (ns : List (List ℕ)). record { at = x.at; domains = ns } ∷ xs) (texts-by x.domains)

ranges-by : (xs : List DraftRange) → ranges (items_by range_data xs) ≡ xs
ranges-by [] = refl
ranges-by (x ∷ xs) = ap (λ (ys : List DraftRange). x ∷ ys) (ranges-by xs)

-- the draft of a document is the one that it writes
pub draft_at-document : (d : Draft) → draft_at (document d) ≡ d
draft_at-document d =
    let dims = numbers-by d.dims in
    let names = domains-by d.domains in
    let hosts = tiles-by d.tiles in
    let spans = ranges-by d.ranges in
    let slots = texts-by d.slots in
    λ t. record {
      version = d.version;
      shape = d.shape;
      dims = dims t;
      stages = d.stages;
      buffer = d.buffer;
      domains = names t;
      tiles = hosts t;
      ranges = spans t;
      slots = slots t;
    }

-- ---- the faults of a document

fit-by : {A : Type 0} (e : Element) (f : A → Data) → ((x : A) → fits_element e (f x) ≡ true) → (xs : List A)
    → all_fit e (items_by f xs) ≡ true
fit-by e f each [] = refl
fit-by e f each (x ∷ xs) = rw (each x) (fit-by e f each xs)

or-assoc : {A : Type 0} (a b c : Option A) → option_or a (option_or b c) ≡ option_or (option_or a b) c
or-assoc None b c = refl
or-assoc (Some x) b c = refl

first_some-append : (f : Place → Option DescFault) (xs ys : List Place)
    → first_some f (xs ++ ys) ≡ option_or (first_some f xs) (first_some f ys)
first_some-append f [] ys = refl
first_some-append f (x ∷ xs) ys =
    ap (option_or (f x)) (first_some-append f xs ys) ∙ or-assoc (f x) (first_some f xs) (first_some f ys)

elements-clean : {A : Type 0} (flaw : Flaw) (kind : Kind) (m : A → Members)
    → ((x : A) (i : ℕ) → place_fault flaw (record { kind = kind; element = i; members = m x }) ≡ None)
    → (n : ℕ) (xs : List A)
    → first_some (place_fault flaw) (element_tables kind n (items_by (λ x. table (m x)) xs)) ≡ None
elements-clean flaw kind m each n [] = refl
elements-clean flaw kind m each n (x ∷ xs) = rw (each x n) (elements-clean flaw kind m each (n + 1) xs)

domain-clean : (flaw : Flaw) (x : DraftDomain) (i : ℕ)
    → place_fault flaw (record { kind = Domain; element = i; members = domain_members x }) ≡ None
domain-clean Unknown x i = refl
domain-clean Missing x i = refl
domain-clean Misfit x i = refl

tile-clean : (flaw : Flaw) (x : DraftTile) (i : ℕ)
    → place_fault flaw (record { kind = Tile; element = i; members = tile_members x }) ≡ None
tile-clean Unknown x i = refl
tile-clean Missing x i = refl
tile-clean Misfit x i = rw (fit-by Text string (λ n. refl) x.domains) refl

range-clean : (flaw : Flaw) (x : DraftRange) (i : ℕ)
    → place_fault flaw (record { kind = Range; element = i; members = range_members x }) ≡ None
range-clean Unknown x i = refl
range-clean Missing x i = refl
range-clean Misfit x i = refl

-- the table of a draft of version 2
abbrev weighted : Draft → Draft
weighted d = record d { version = pos 2 }

top-clean : (flaw : Flaw) (d : Draft)
    → place_fault flaw (record { kind = WeightedTop; element = 0; members = document (weighted d) }) ≡ None
top-clean Unknown d = refl
top-clean Missing d = refl
top-clean Misfit d =
    rw (
      fit-by Integer integer (λ n. refl) d.dims,
      fit-by Table domain_data (λ n. refl) d.domains,
      fit-by Table tile_data (λ n. refl) d.tiles,
      fit-by Table range_data (λ n. refl) d.ranges,
      fit-by Text string (λ n. refl) d.slots,
    ) refl

flaw-clean : (flaw : Flaw) (d : Draft) → first_some (place_fault flaw) (tables (document (weighted d))) ≡ None
flaw-clean flaw d =
    let f = place_fault flaw in
    let ds = element_tables Domain 0 (items_by domain_data d.domains) in
    let ts = element_tables Tile 0 (items_by tile_data d.tiles) in
    let rs = element_tables Range 0 (items_by range_data d.ranges) in
    rw (top-clean flaw d)
    (first_some-append f ds (ts ++ rs) ∙ ap (λ o. option_or o (first_some f (ts ++ rs))) (elements-clean flaw Domain domain_members (domain-clean flaw) 0 d.domains)
    ∙ first_some-append f ts rs
    ∙ ap (λ o. option_or o (first_some f rs)) (elements-clean flaw Tile tile_members (tile-clean flaw) 0 d.tiles)
    ∙ elements-clean flaw Range range_members (range-clean flaw) 0 d.ranges)

weighted-clean : (d : Draft) → table_fault (document (weighted d)) ≡ None
weighted-clean d = rw (flaw-clean Unknown d, flaw-clean Missing d, flaw-clean Misfit d) refl

-- a document of version 2 has no fault
pub table_fault-document : (d : Draft) → d.version ≡ pos 2 → table_fault (document d) ≡ None
table_fault-document d e = ap (λ v. table_fault (document (record d { version = v }))) e ∙ weighted-clean d

-- what is written has no fault
pub none-written : (bytes : List ℕ) (d : Draft) → table_of bytes ≡ Some (document d) → d.version ≡ pos 2
    → first_fault bytes ≡ None
none-written bytes d is e = ap fault_of is ∙ table_fault-document d e

-- what is written is read as the draft
pub draft-written : (bytes : List ℕ) (d : Draft) → table_of bytes ≡ Some (document d) → draft_of bytes ≡ Some d
draft-written bytes d is = ap (option_map draft_at) is ∙ ap Some (draft_at-document d)
