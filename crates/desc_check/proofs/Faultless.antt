-- The draft of a sound plan has no fault of its values and lists.
use Rattle.std.proofs.Common.{◌≡◌, ℕ, suc, ◌+◌, ◌^◌, ◌<◌, ◌≤◌, inl, inr, Bool, true, false, ◌&&◌, ◌||◌, not, List, [], ◌∷◌, length, map, take, get_or, Option, None, refl, sym, ap, ◌∙◌, subst, arith}
use Rattle.std.specs.Prelude.{pos, nat_le, nat_lt, codes, All, AllPairs, if◌then◌else◌}
use Rattle.std.specs.Option.{option_or}
use Rattle.std.specs.Ordering.{int_eq}
use Rattle.std.specs.List.{list_all, list_any}
use Rattle.std.specs.Str.{bytes_eq}
use Rattle.std.proofs.lemmas.Bool.Decides.{nat_tests}
use Rattle.std.proofs.lemmas.List.{length-map, get_or-take, get_or_default, length-take, take-map}
use Rattle.std.proofs.lemmas.List.Elements.{All-map, Contains-get_or}
use Rattle.std.proofs.lemmas.List.Folds.{list_any_none, list_all-map}
use Rattle.noc_model.specs.declared.plan.DomainPart.{DomainPart}
use Rattle.noc_model.specs.declared.Range.{Range}
use Rattle.noc_model.specs.Plan.{Plan, tiles, product, name_of}
use Rattle.noc_model.specs.Sound.{IsSound, IsName, IsNameByte, AreSides, AreApart}
use Rattle.noc_desc.specs.declared.Draft.{Draft}
use Rattle.noc_desc.specs.declared.DraftDomain.{DraftDomain}
use Rattle.noc_desc.specs.declared.DraftTile.{DraftTile}
use Rattle.noc_desc.specs.declared.DescFault.{DescFault}
use Rattle.noc_desc.specs.declared.DescFault.TheVariants.{Dims, Stages, Buffer, DomainCount, DomainName, DomainTwice, Channels, TileRange, TileTwice, HostUnknown, HostTwice, RangeTile, RangeOrder, RangeOverlap, SlotCount, SlotUnknown, SlotMissing}
use Rattle.desc_check.specs.Words.{number_of, is_between, is_within, is_below, is_name_byte, is_name, is_domain, is_among, fault_if, first_at}
use Rattle.desc_check.specs.Network.{tile_count}
use Rattle.desc_check.specs.Faults.{shape_fault, has_sides, dims_fault, stages_fault, buffer_fault, domain_count_fault, domain_name_fault, domain_twice_fault, channels_fault, tile_range_fault, tile_twice_fault, unknown_name_fault, host_unknown_fault, repeated_name_fault, host_twice_fault, range_tile_fault, is_in_order, range_order_fault, overlaps, overlaps_later, range_overlap_fault, slot_count_fault, slot_unknown_fault, slot_missing_fault}
use Rattle.desc_check.specs.Accepted.{form_fault, domains_fault, tiles_fault, ranges_fault, lists_fault, slots_fault}
use Rattle.desc_check.specs.Upgrade.{hosted_by, tile_of, hosting, domain_draft, range_draft, upgrade_of}
use Rattle.desc_check.proofs.Members.{there-in-map}
use Rattle.desc_check.proofs.Drafted.{joined, same-bytes, other-bytes, name-is, named-apart, named-among, hosted-below, hosted-rise, hosting-below, hosting-rise}
use Rattle.desc_check.proofs.Upgraded.{nobody}

-- ---- no fault

pub no-fault : (b : Bool) (fault : DescFault) → b ≡ false → fault_if b fault ≡ None
no-fault b fault h = rw h refl

pub met : (b : Bool) (fault : DescFault) → b ≡ true → fault_if (not b) fault ≡ None
met b fault h = rw h refl

pub none-of-both : (a b : Option DescFault) → a ≡ None → b ≡ None → option_or a b ≡ None
none-of-both a b h k = rw (h, k) refl

-- no element of a mapped list has a fault
none-along : {A B : Type 0} (f : ℕ → B → Option DescFault) (g : A → B) (n : ℕ) (xs : List A) (d : A) →
    ((k : ℕ) → k < length xs → f (n + k) (g (get_or xs k d)) ≡ None) → first_at f n (map g xs) ≡ None
none-along f g n [] d each = refl
none-along {A} f g n (x ∷ xs) d each =
    let same : n + 0 ≡ n = omega arith in
    none-of-both (f n (g x)) (first_at f (n + 1) (map g xs))
    (subst (λ (m : ℕ). f m (g x) ≡ None) same (each 0 (omega arith)))
    (none-along f g (n + 1) xs d (λ k less. (let next : n + suc k ≡ n + 1 + k = omega arith in subst
    (λ (m : ℕ). f m (g (get_or xs k d)) ≡ None) next (each (suc k) (omega (arith, less))))))

unordered : (i j : ℕ) (b : Bool) → (i < j → b ≡ false) → (nat_lt (0 + i) (0 + j) && b) ≡ false
unordered i j b h = go (nat_lt (0 + i) (0 + j)) refl
  where
    go : (t : Bool) → nat_lt (0 + i) (0 + j) ≡ t → (t && b) ≡ false
    go true e = h (grind (arith, nat_tests))
    go false e = refl

-- no element of a mapped list and a later one have a fault
none-of-pairs : {A B : Type 0} (test : B → B → Bool) (fault : ℕ → ℕ → DescFault) (g : A → B) (xs : List A) (d : A)
    → AllPairs (λ x y. test (g x) (g y) ≡ false) xs
    → first_at (λ i x. first_at (λ j y. fault_if (nat_lt i j && test x y) (fault i j)) 0 (map g xs)) 0 (map g xs)
    ≡ None
none-of-pairs {A} {B} test fault g xs d apart =
    let at : ℕ → B → ℕ → B → Option DescFault = (λ i x j y. fault_if (nat_lt i j && test x y) (fault i j)) in
    none-along (λ i x. first_at (at i x) 0 (map g xs)) g 0 xs d
    (λ i less. none-along (at (0 + i) (g (get_or xs i d))) g 0 xs d
    (λ j within.
    (let hit : Bool = test (g (get_or xs i d)) (g (get_or xs j d)) in
    no-fault (nat_lt (0 + i) (0 + j) && hit) (fault (0 + i) (0 + j))
    (unordered i j hit (λ before. apart i j d before within)))))

-- ---- numbers

between : (low high n : ℕ) → low ≤ n → n ≤ high → is_between low high n ≡ true
between low high n h k = joined (nat_le low n) (nat_le n high) (grind (arith, nat_tests)) (grind (arith, nat_tests))

not-past : (low n : ℕ) → n < low → nat_le low n ≡ false
not-past low n h = grind (arith, nat_tests)

under : (n k : ℕ) → k < n → nat_lt k n ≡ true
under n k h = grind (arith, nat_tests)

up-to : (m n : ℕ) → m ≤ n → nat_le m n ≡ true
up-to m n h = grind (arith, nat_tests)

unlike : (a b : ℕ) → a < b → int_eq (pos a) (pos b) ≡ false
unlike a b h = grind (arith, nat_tests)

all-pass : {A : Type 0} (q : A → Bool) (xs : List A) → All (λ x. q x ≡ true) xs → list_all q xs ≡ true
all-pass q [] each = refl
all-pass q (x ∷ xs) each = joined (q x) (list_all q xs) (each 0 x (omega arith))
    (all-pass q xs (λ k z less. each (suc k) z (omega (arith, less))))

-- ---- the form

pub back : (ks : List ℕ) → map number_of (map (λ k. pos k) ks) ≡ ks
back [] = refl
back (k ∷ ks) = ap (λ rest. k ∷ rest) (back ks)

-- the draft has as many tiles
pub tiles-drafted : (p : Plan) → tile_count (upgrade_of p).dims ≡ tiles p
tiles-drafted p = ap product (back p.dims)

sides-pass : (ks : List ℕ) → AreSides ks → list_all (is_within 1 16) (map (λ k. pos k) ks) ≡ true
sides-pass ks sides = list_all-map (is_within 1 16) (λ k. pos k) ks ∙ all-pass (λ k. is_within 1 16 (pos k)) ks
    (λ i z less. between 1 16 (get_or ks i z) (sides i z less).0 (sides i z less).1)

shape-known : (b : Bool) → shape_fault (if b then codes "torus" else codes "mesh") ≡ None
shape-known true = refl
shape-known false = refl

form-none : (p : Plan) → IsSound p → form_fault (upgrade_of p) ≡ None
form-none p sound =
    let d : Draft = upgrade_of p in
    let len : length d.dims ≡ length p.dims = length-map p.dims (λ k. pos k) in
    let count : is_between 1 3 (length d.dims) ≡ true = between 1 3 (length d.dims) (omega (arith, sound.dims.0))
    (omega (arith, sound.dims.1)) in
    let few : nat_le (tile_count d.dims) 256 ≡ true = up-to (tile_count d.dims) 256
    (omega (arith, tiles-drafted p, sound.tile_count)) in
    let sides : has_sides (pos 2) d.dims ≡ true = joined
    (is_between 1 3 (length d.dims) && list_all (is_within 1 16) d.dims) (nat_le (tile_count d.dims) 256)
    (joined (is_between 1 3 (length d.dims)) (list_all (is_within 1 16) d.dims) count
    (sides-pass p.dims sound.sides)) few in
    none-of-both (shape_fault d.shape) _ (shape-known p.torus)
    (none-of-both (dims_fault d.version d.dims) _ (met (has_sides (pos 2) d.dims) Dims sides)
    (none-of-both (stages_fault d.stages) _ (met (is_within 1 4 d.stages) Stages
    (between 1 4 p.stages sound.stages.0 sound.stages.1))
    (none-of-both (buffer_fault d.buffer) None
    (met (is_within 1 16 d.buffer) Buffer (between 1 16 p.buffer sound.buffer.0 sound.buffer.1)) refl)))

-- ---- the domains

name-byte : (b : ℕ) → IsNameByte b → is_name_byte b ≡ true
name-byte b h = grind (arith, nat_tests)

good-name : (bs : List ℕ) → IsName bs → is_name bs ≡ true
good-name bs h = joined (is_between 1 16 (length bs)) (list_all is_name_byte bs) (between 1 16 (length bs) h.0 h.1)
    (all-pass is_name_byte bs (λ k z less. name-byte (get_or bs k z) (h.2 k z less)))

names-none : (p : Plan) → IsSound p → domain_name_fault (map domain_draft p.domains) ≡ None
names-none p sound =
    none-along (λ i x. fault_if (not (is_name x.name)) (DomainName i)) domain_draft 0 p.domains nobody
    (λ k less. met (is_name (get_or p.domains k nobody).name) (DomainName (0 + k))
    (good-name (get_or p.domains k nobody).name (sound.names k nobody less)))

pub twice-none : (p : Plan) → IsSound p → domain_twice_fault (map domain_draft p.domains) ≡ None
twice-none p sound =
    none-of-pairs (λ (x y : DraftDomain). bytes_eq x.name y.name)
    (λ i j. DomainTwice i j) domain_draft p.domains nobody
    (λ i j z less under. other-bytes (get_or p.domains i z).name (get_or p.domains j z).name
    (sound.names_apart i j z less under))

channels-none : (p : Plan) → IsSound p → channels_fault (map domain_draft p.domains) ≡ None
channels-none p sound =
    none-along (λ i x. fault_if (not (is_within 1 4 x.channels)) (Channels i)) domain_draft 0 p.domains nobody
    (λ k less. (let few = sound.channels k nobody less in met (is_between 1 4 (get_or p.domains k nobody).channels)
    (Channels (0 + k)) (between 1 4 (get_or p.domains k nobody).channels few.0 few.1)))

domains-none : (p : Plan) → IsSound p → domains_fault (upgrade_of p) ≡ None
domains-none p sound =
    let xs : List DraftDomain = map domain_draft p.domains in
    let len : length xs ≡ length p.domains = length-map p.domains domain_draft in
    let count : is_between 1 16 (length xs) ≡ true = between 1 16 (length xs) (omega (arith, sound.domains.0))
    (omega (arith, sound.domains.1)) in
    none-of-both (domain_count_fault xs) _ (met (is_between 1 16 (length xs)) DomainCount count)
    (none-of-both (domain_name_fault xs) _ (names-none p sound)
    (none-of-both (domain_twice_fault xs) _ (twice-none p sound)
    (none-of-both (channels_fault xs) None (channels-none p sound) refl)))

-- a domain of the plan is one of the draft
known : (p : Plan) (d : ℕ) → d < length p.domains → is_domain (map domain_draft p.domains) (name_of p d) ≡ true
known p d less =
    let x : DomainPart = get_or p.domains d nobody in
    there-in-map (λ (y : DraftDomain). bytes_eq y.name (name_of p d)) domain_draft p.domains x
    (Contains-get_or p.domains d nobody less)
    (subst (λ (name : List ℕ). bytes_eq x.name name ≡ true) (sym (name-is p d nobody less)) (same-bytes x.name))

-- ---- the tiles

tile-range-none : (p : Plan) → tile_range_fault (tile_count (upgrade_of p).dims) (map (tile_of p) (hosting p)) ≡ None
tile-range-none p =
    let n : ℕ = tile_count (upgrade_of p).dims in
    none-along (λ i x. fault_if (not (is_below n x.at)) (TileRange i)) (tile_of p) 0 (hosting p) 0
    (λ k less. (let below = hosting-below p k 0 less in met (is_below n (pos (get_or (hosting p) k 0)))
    (TileRange (0 + k)) (under n (get_or (hosting p) k 0) (omega (arith, below, tiles-drafted p)))))

tile-twice-none : (p : Plan) → tile_twice_fault (map (tile_of p) (hosting p)) ≡ None
tile-twice-none p =
    none-of-pairs (λ (x y : DraftTile). int_eq x.at y.at) (λ i j. TileTwice i j) (tile_of p) (hosting p) 0
    (λ i j z less within. unlike (get_or (hosting p) i z) (get_or (hosting p) j z) (hosting-rise p i j z less within))

unknown-none : (p : Plan) → host_unknown_fault (map domain_draft p.domains) (map (tile_of p) (hosting p)) ≡ None
unknown-none p =
    none-along (unknown_name_fault (map domain_draft p.domains)) (tile_of p) 0 (hosting p) 0
    (λ i less. (let ds : List ℕ = hosted_by p (get_or (hosting p) i 0) in
    none-along (λ k name. fault_if (not (is_domain (map domain_draft p.domains) name)) (HostUnknown (0 + i) k))
    (name_of p) 0 ds 0
    (λ k within. met (is_domain (map domain_draft p.domains) (name_of p (get_or ds k 0)))
    (HostUnknown (0 + i) (0 + k)) (known p (get_or ds k 0)
    (hosted-below p (get_or (hosting p) i 0) k 0 within)))))

-- the name of a domain does not stand before it
not-before : (p : Plan) → IsSound p → (ds : List ℕ) → All (λ d. d < length p.domains) ds → AllPairs (λ x y. x < y) ds
    → (k : ℕ) → k < length ds → is_among (take (0 + k) (map (name_of p) ds)) (name_of p (get_or ds k 0)) ≡ false
not-before p sound ds below rise k less =
    let name : List ℕ = name_of p (get_or ds k 0) in
    let same : 0 + k ≡ k = omega arith in
    let len = length-take k ds in
    let none : list_any (λ other. bytes_eq other name) (map (name_of p) (take k ds)) ≡ false =
    list_any_none (λ other. bytes_eq other name) (map (name_of p) (take k ds))
    (All-map (λ (other : List ℕ). bytes_eq other name ≡ false) (name_of p) (take k ds)
    (λ j z within.
    (let at : get_or (take k ds) j z ≡ get_or ds j z = get_or-take k ds j z (omega arith) in
    let rises : get_or ds j z < get_or ds k z = rise j k z (omega arith) less in
    let here : get_or ds k z ≡ get_or ds k 0 = get_or_default ds k z 0 less in
    other-bytes (name_of p (get_or (take k ds) j z)) name
    (named-apart p sound (get_or (take k ds) j z) (get_or ds k 0) (omega arith) (below k 0 less))))) in
    ap (λ m. is_among (take m (map (name_of p) ds)) name) same ∙ ap (λ names. is_among names name)
    (take-map (name_of p) k ds) ∙ none

host-twice-none : (p : Plan) → IsSound p → host_twice_fault (map (tile_of p) (hosting p)) ≡ None
host-twice-none p sound =
    none-along repeated_name_fault (tile_of p) 0 (hosting p) 0
    (λ i less. (let n : ℕ = get_or (hosting p) i 0 in
    none-along (λ k name. fault_if (is_among (take k (map (name_of p) (hosted_by p n))) name) (HostTwice (0 + i) k))
    (name_of p) 0 (hosted_by p n) 0
    (λ k within. no-fault (is_among (take (0 + k) (map (name_of p) (hosted_by p n)))
    (name_of p (get_or (hosted_by p n) k 0))) (HostTwice (0 + i) (0 + k))
    (not-before p sound (hosted_by p n) (hosted-below p n) (hosted-rise p n) k within))))

tiles-none : (p : Plan) → IsSound p → tiles_fault (upgrade_of p) ≡ None
tiles-none p sound =
    let d : Draft = upgrade_of p in
    none-of-both (tile_range_fault (tile_count d.dims) d.tiles) _ (tile-range-none p)
    (none-of-both (tile_twice_fault d.tiles) _ (tile-twice-none p)
    (none-of-both (host_unknown_fault d.domains d.tiles) _ (unknown-none p)
    (none-of-both (host_twice_fault d.tiles) None (host-twice-none p sound) refl)))

-- ---- the ranges

-- a range of no plan
abbrev nowhere : Range
nowhere = record { tile = 0; first = 0; last = 0 }

range-tile-none : (p : Plan) → IsSound p
    → range_tile_fault (tile_count (upgrade_of p).dims) (map range_draft p.ranges) ≡ None
range-tile-none p sound =
    let n : ℕ = tile_count (upgrade_of p).dims in
    none-along (λ i x. fault_if (not (is_below n x.tile) || nat_le 1024 i)
    (RangeTile i)) range_draft 0 p.ranges nowhere
    (λ k less.
    (let range : Range = get_or p.ranges k nowhere in
    let within = sound.ranges k nowhere less in
    let below : nat_lt range.tile n ≡ true = under n range.tile (omega (arith, within.0, tiles-drafted p)) in
    let few : nat_le 1024 (0 + k) ≡ false = not-past 1024 (0 + k) (omega (arith, sound.range_count)) in
    no-fault (not (nat_lt range.tile n) || nat_le 1024 (0 + k)) (RangeTile (0 + k)) (rw (below, few) refl)))

ordered : (r : Range) → r.first ≤ r.last → r.last < 2 ^ 32 → is_in_order (range_draft r) ≡ true
unfolding is_in_order
ordered r up most = joined (nat_le 0 r.first && nat_le r.first r.last) (nat_le r.last 4294967295)
    (joined (nat_le 0 r.first) (nat_le r.first r.last) (up-to 0 r.first (omega arith)) (up-to r.first r.last up))
    (up-to r.last 4294967295 (omega arith))

range-order-none : (p : Plan) → IsSound p → range_order_fault (map range_draft p.ranges) ≡ None
range-order-none p sound =
    none-along (λ i x. fault_if (not (is_in_order x)) (RangeOrder i)) range_draft 0 p.ranges nowhere
    (λ k less. (let within = sound.ranges k nowhere less in met
    (is_in_order (range_draft (get_or p.ranges k nowhere))) (RangeOrder (0 + k))
    (ordered (get_or p.ranges k nowhere) within.1 within.2)))

last-fails : (a b : Bool) → b ≡ false → (a && b) ≡ false
last-fails true b h = h
last-fails false b h = refl

apart : (q r : Range) → AreApart q r → overlaps (range_draft q) (range_draft r) ≡ false
apart q r (inl before) = last-fails (nat_le q.first r.last) (nat_le r.first q.last) (not-past r.first q.last before)
apart q r (inr after) = (let no : nat_le q.first r.last ≡ false = not-past q.first r.last after in rw no refl)

overlap-none : (p : Plan) → IsSound p → range_overlap_fault (map range_draft p.ranges) ≡ None
unfolding overlaps_later
overlap-none p sound =
    none-of-pairs overlaps (λ i j. RangeOverlap i j) range_draft p.ranges nowhere
    (λ i j z less within. apart (get_or p.ranges i z) (get_or p.ranges j z) (sound.ranges_apart i j z less within))

ranges-none : (p : Plan) → IsSound p → ranges_fault (upgrade_of p) ≡ None
ranges-none p sound =
    let d : Draft = upgrade_of p in
    none-of-both (range_tile_fault (tile_count d.dims) d.ranges) _ (range-tile-none p sound)
    (none-of-both (range_order_fault d.ranges) _ (range-order-none p sound)
    (none-of-both (range_overlap_fault d.ranges) None (overlap-none p sound) refl))

-- ---- the slots

unknown-slot-none : (p : Plan) → IsSound p
    → slot_unknown_fault (map domain_draft p.domains) (map (name_of p) p.slots) ≡ None
unknown-slot-none p sound =
    none-along (λ i name. fault_if (not (is_domain (map domain_draft p.domains) name)) (SlotUnknown i))
    (name_of p) 0 p.slots 0
    (λ k less. met (is_domain (map domain_draft p.domains) (name_of p (get_or p.slots k 0))) (SlotUnknown (0 + k))
    (known p (get_or p.slots k 0) (sound.slots k 0 less)))

missing-slot-none : (p : Plan) → IsSound p
    → slot_missing_fault (pos 2) (map domain_draft p.domains) (map (name_of p) p.slots) ≡ None
missing-slot-none p sound =
    none-along (λ i x. fault_if (not (is_among (map (name_of p) p.slots) x.name))
    (SlotMissing i)) domain_draft 0 p.domains nobody
    (λ k less. met (is_among (map (name_of p) p.slots) (get_or p.domains k nobody).name) (SlotMissing (0 + k))
    (subst (λ (name : List ℕ). is_among (map (name_of p) p.slots) name ≡ true) (name-is p k nobody less)
    (named-among p p.slots k (sound.each_has_slot k less))))

pub slots-none : (p : Plan) → IsSound p → slots_fault (upgrade_of p) ≡ None
slots-none p sound =
    let d : Draft = upgrade_of p in
    let len : length d.slots ≡ length p.slots = length-map p.slots (name_of p) in
    let count : is_between 1 64 (length d.slots) ≡ true = between 1 64 (length d.slots)
    (omega (arith, sound.slot_count.0)) (omega (arith, sound.slot_count.1)) in
    none-of-both (slot_count_fault d.version d.slots) _ (met (is_between 1 64 (length d.slots)) SlotCount count)
    (none-of-both (slot_unknown_fault d.domains d.slots) _ (unknown-slot-none p sound)
    (none-of-both (slot_missing_fault d.version d.domains d.slots) None (missing-slot-none p sound) refl))

-- ---- all of them

pub lists-none : (p : Plan) → IsSound p → lists_fault (upgrade_of p) ≡ None
lists-none p sound =
    let d : Draft = upgrade_of p in
    none-of-both (form_fault d) _ (form-none p sound)
    (none-of-both (domains_fault d) _ (domains-none p sound)
    (none-of-both (tiles_fault d) _ (tiles-none p sound)
    (none-of-both (ranges_fault d) None (ranges-none p sound) refl)))
