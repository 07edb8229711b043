-- The plan of a draft without a fault is sound.
use Rattle.std.proofs.Common.{◌≡◌, ◌≢◌, ℕ, zero, suc, ◌+◌, ◌*◌, ◌/◌, ◌%◌, ◌^◌, ◌<◌, ◌≤◌, ◌⊎◌, inl, inr, Bool, true, false, cond, ◌&&◌, ◌||◌, not, List, [], ◌∷◌, length, map, refl, sym, ◌∙◌, ap, subst, arith, get_or, zero-add, Option, Some, None}
use Rattle.std.specs.Prelude.{ℤ, pos, negsuc, nat_le, nat_lt, All, AllPairs, Contains, int_le, if◌then◌else◌}
use Rattle.std.specs.Option.{unwrap_or}
use Rattle.std.specs.Ordering.{int_eq}
use Rattle.std.specs.Cmp.{signed_Decides}
use Rattle.std.specs.List.{AllByRecursion, list_all, range_with_len, position_from}
use Rattle.std.specs.Str.{bytes_eq}
use Rattle.std.proofs.lemmas.Slice.Eq.{bytes_eq-Decides}
use Rattle.std.proofs.lemmas.List.{length-map, get_or-map}
use Rattle.std.proofs.lemmas.List.FromFn.{length-range_with_len, get_or-range_with_len}
use Rattle.std.proofs.lemmas.List.Elements.{All-from_recursion, All-map, All-filter}
use Rattle.std.proofs.lemmas.List.Kept.{AllPairs-filter}
use Rattle.std.proofs.lemmas.List.Folds.{Any-from_list_any}
use Rattle.std.proofs.lemmas.Nat.{le-div}
use Rattle.std.proofs.Math.Nat.{div-lt_iff_lt-mul, div-mul-le_self}
use Rattle.std.proofs.lemmas.Bool.{cases_lt}
use Rattle.std.proofs.lemmas.Bool.Decides.{nat_tests}
use Rattle.noc_model.specs.Plan.{places}
use Rattle.noc_model.specs.Sound.{IsSound, IsName, IsNameByte, IsBefore, IsRangeIn, AreApart}
use Rattle.noc_model.specs.declared.plan.DomainPart.{DomainPart}
use Rattle.noc_model.specs.declared.Host.{Host}
use Rattle.noc_desc.specs.declared.Draft.{Draft}
use Rattle.noc_desc.specs.declared.DraftDomain.{DraftDomain}
use Rattle.noc_desc.specs.declared.DraftRange.{DraftRange}
use Rattle.noc_desc.specs.declared.DescFault.TheVariants.{Version, Dims, Stages, Buffer, DomainCount, PlacesMany, AttachMany, SlotCount}
use Rattle.desc_check.specs.Words.{number_of, is_between, is_within, is_below, is_name_byte, is_name, is_domain}
use Rattle.desc_check.specs.Network.{tile_count, domain_of, range_of, name_at, is_hosted, pair_at, hosts_of, domain_number, slots_of, plan_of_draft}
use Rattle.desc_check.specs.Faults.{version_fault, shape_fault, sides_allowed, has_sides, dims_fault, stages_fault, buffer_fault, domain_count_fault, domain_name_fault, domain_twice_fault, channels_fault, range_tile_fault, is_in_order, range_order_fault, overlaps_later, range_overlap_fault, places_fault, attach_fault, slot_count_fault, slot_unknown_fault, slot_missing_fault}
use Rattle.desc_check.specs.Accepted.{form_fault, domains_fault, tiles_fault, ranges_fault, lists_fault, IsSized, sizes_fault, slots_fault, first_fault}
use Rattle.desc_check.proofs.Lists.{neither, holds_not, holds}
use Rattle.desc_check.proofs.Judged.{both, denied, second, good_name, good_channels, names_apart, good_tile, in_order, ranges_apart, slot_known, has_slot}

-- ---- numbers and names

pub between : (low high n : ℕ) → is_between low high n ≡ true → (low ≤ n) × (n ≤ high)
between low high n h =
    let parts = both (nat_le low n) (nat_le n high) h in
    (grind (arith, nat_tests), grind (arith, nat_tests))

pub within : (low high : ℕ) (z : ℤ) → is_within low high z ≡ true → (low ≤ number_of z) × (number_of z ≤ high)
within low high (pos n) h = between low high n h
within low high (negsuc n) h = absurd cc

below : (n : ℕ) (z : ℤ) → is_below n z ≡ true → number_of z < n
below n (pos m) h = grind (arith, nat_tests)
below n (negsuc m) h = absurd cc

at_most : (m n : ℕ) → nat_le m n ≡ true → m ≤ n
at_most m n h = grind (arith, nat_tests)

pub not_above : (m n : ℕ) → nat_lt m n ≡ false → n ≤ m
not_above m n h = grind (arith, nat_tests)

few_sides : (b : Bool) → (if b then 2 else 3) ≤ 3
few_sides true = omega arith
few_sides false = omega arith

name_byte : (b : ℕ) → is_name_byte b ≡ true → IsNameByte b
name_byte b h = grind (arith, nat_tests)

bytes : (b : List ℕ) → list_all is_name_byte b ≡ true → AllByRecursion IsNameByte b
bytes [] h = tt
bytes (x ∷ xs) h =
    let parts = both (is_name_byte x) (list_all is_name_byte xs) h in
    (name_byte x parts.0, bytes xs parts.1)

name : (b : List ℕ) → is_name b ≡ true → IsName b
name b h =
    let parts = both (is_between 1 16 (length b)) (list_all is_name_byte b) h in
    let len = between 1 16 (length b) parts.0 in
    (len.0, len.1, All-from_recursion IsNameByte b (bytes b parts.1))

unlike : (a b : List ℕ) → bytes_eq a b ≡ false → a ≢ b
unlike a b h = λ e. let yes : bytes_eq a b ≡ true = (bytes_eq-Decides a b).1 e in cc

-- ---- lists

each : {A B : Type 0} (p : A → Bool) (f : A → B) (Q : B → Type 0) → ((x : A) → p x ≡ true → Q (f x)) → (xs : List A)
    → list_all p xs ≡ true → AllByRecursion Q (map f xs)
each p f Q says [] h = tt
each p f Q says (x ∷ xs) h = let parts = both (p x) (list_all p xs) h in (says x parts.0, each p f Q says xs parts.1)

pairs_map : {X Y : Type 0} (R : Y → Y → Type 0) (f : X → Y) (xs : List X) → AllPairs (λ x y. R (f x) (f y)) xs
    → AllPairs R (map f xs)
pairs_map R f [] h i j d less under = absurd (omega arith)
pairs_map {X} {Y} R f (x ∷ xs) h i j d less under =
    let len : length (map f (x ∷ xs)) ≡ length (x ∷ xs) = length-map (x ∷ xs) f in
    let at_i : get_or (map f (x ∷ xs)) i d ≡ f (get_or (x ∷ xs) i x) = get_or-map f (x ∷ xs) i x d (omega arith) in
    let at_j : get_or (map f (x ∷ xs)) j d ≡ f (get_or (x ∷ xs) j x) = get_or-map f (x ∷ xs) j x d (omega arith) in
    subst (λ (b : Y). R (get_or (map f (x ∷ xs)) i d) b) (sym at_j) (subst (λ (a : Y). R a (f (get_or (x ∷ xs) j x))) (sym at_i) (h i j x less (omega arith)))

-- ---- the form

pub record Formed (d : Draft) : Type 0 where
  pub version : is_within 1 2 d.version ≡ true
  pub dims : has_sides d.version d.dims ≡ true
  pub stages : is_within 1 4 d.stages ≡ true
  pub buffer : is_within 1 16 d.buffer ≡ true

pub formed : (d : Draft) → form_fault d ≡ None → Formed d
formed d h =
    let a = neither (version_fault d.version) _ h in
    let b = neither (shape_fault d.shape) _ a.1 in
    let c = neither (dims_fault d.version d.dims) _ b.1 in
    let e = neither (stages_fault d.stages) _ c.1 in
    let f = neither (buffer_fault d.buffer) _ e.1 in
    record {
      version = holds (is_within 1 2 d.version) Version a.0;
      dims = holds (has_sides d.version d.dims) Dims c.0;
      stages = holds (is_within 1 4 d.stages) Stages e.0;
      buffer = holds (is_within 1 16 d.buffer) Buffer f.0;
    }

pub record Sided (version : ℤ) (dims : List ℤ) : Type 0 where
  pub count : (1 ≤ length dims) × (length dims ≤ 3)
  pub each : list_all (is_within 1 16) dims ≡ true
  pub few : tile_count dims ≤ 256

pub sided : (version : ℤ) (dims : List ℤ) → has_sides version dims ≡ true → Sided version dims
sided version dims h =
    let a =
    both (is_between 1 (sides_allowed version) (length dims) && list_all (is_within 1 16) dims) (nat_le (tile_count dims) 256) h in
    let b = both (is_between 1 (sides_allowed version) (length dims)) (list_all (is_within 1 16) dims) a.0 in
    let count = between 1 (sides_allowed version) (length dims) b.0 in
    let most = few_sides (int_eq version (pos 1)) in
    record { count = (count.0, omega arith); each = b.1; few = at_most (tile_count dims) 256 a.1 }

pub record Parted (xs : List DraftDomain) : Type 0 where
  pub count : (1 ≤ length xs) × (length xs ≤ 16)
  pub names : domain_name_fault xs ≡ None
  pub apart : domain_twice_fault xs ≡ None
  pub channels : channels_fault xs ≡ None

pub parted : (d : Draft) → domains_fault d ≡ None → Parted d.domains
parted d h =
    let a = neither (domain_count_fault d.domains) _ h in
    let b = neither (domain_name_fault d.domains) _ a.1 in
    let c = neither (domain_twice_fault d.domains) _ b.1 in
    let e = neither (channels_fault d.domains) _ c.1 in
    record { count = between 1 16 (length d.domains) (holds (is_between 1 16 (length d.domains)) DomainCount a.0); names = b.0; apart = c.0; channels = e.0 }

pub sized : (d : Draft) → form_fault d ≡ None → domains_fault d ≡ None → IsSized (plan_of_draft d)
sized d h k =
    let form = formed d h in
    let sides = sided d.version d.dims form.dims in
    let parts = parted d k in
    let buffer = within 1 16 d.buffer form.buffer in
    let len : length (map number_of d.dims) ≡ length d.dims = length-map d.dims number_of in
    let count : length (map domain_of d.domains) ≡ length d.domains = length-map d.domains domain_of in
    record {
      dims = omega arith;
      sides = All-from_recursion (λ (k : ℕ). (1 ≤ k) × (k ≤ 16)) (map number_of d.dims) (each (is_within 1 16) number_of (λ k. (1 ≤ k) × (k ≤ 16)) (within 1 16) d.dims sides.each);
      tile_count = sides.few;
      buffer = buffer.1;
      domains = omega arith;
      channels = All-map (λ (x : DomainPart). (1 ≤ x.channels) × (x.channels ≤ 4)) domain_of d.domains (λ i z less. within 1 4 (get_or d.domains i z).channels (good_channels d.domains parts.channels i z less));
    }

-- ---- the hosts

host_within : (n count m : ℕ) → 1 ≤ count → m < n * count → (m / count < n) × (m % count < count)
host_within n count m some less = ((div-lt_iff_lt-mul {k = count} {x = m} {y = n} (omega arith)).1 less, omega arith)

host_before : (count i j : ℕ) → 1 ≤ count → i < j → IsBefore (pair_at count i) (pair_at count j)
host_before count i j some less =
    let under : i / count * count ≤ i = div-mul-le_self i count in
    let up : i / count ≤ j / count = le-div (i / count) j count (omega arith) (omega arith) in
    elim (cases_lt (i / count) (j / count)) [
      | inl before ↦ inl before
      | inr not_before ↦ (let same : i / count ≡ j / count = omega arith in inr (same, (let rows : count * (i / count) ≡ count * (j / count) = ap (λ (q : ℕ). count * q) same in omega arith)))
    ]

pub hosts_within : (n : ℕ) (d : Draft) → 1 ≤ length d.domains
    → All (λ (h : Host). (h.tile < n) × (h.domain < length d.domains)) (hosts_of n d.domains d.tiles)
hosts_within n d some =
    All-filter (λ (h : Host). is_hosted d.tiles h.tile (name_at d.domains h.domain)) (λ (h : Host). (h.tile < n) × (h.domain < length d.domains)) (map (pair_at (length d.domains)) (range_with_len 0 (n * length d.domains)))
    (All-map (λ (h : Host). (h.tile < n) × (h.domain < length d.domains)) (pair_at (length d.domains)) (range_with_len 0 (n * length d.domains)) (λ k z less.
    let len = length-range_with_len 0 (n * length d.domains) in
    let at : get_or (range_with_len 0 (n * length d.domains)) k z ≡ 0 + k =
    get_or-range_with_len 0 (n * length d.domains) k z (omega arith) in
    host_within n (length d.domains) (get_or (range_with_len 0 (n * length d.domains)) k z) some (omega arith)))

pub hosts_in_order : (n : ℕ) (d : Draft) → 1 ≤ length d.domains → AllPairs IsBefore (hosts_of n d.domains d.tiles)
hosts_in_order n d some =
    AllPairs-filter IsBefore (λ (h : Host). is_hosted d.tiles h.tile (name_at d.domains h.domain)) (map (pair_at (length d.domains)) (range_with_len 0 (n * length d.domains)))
    (pairs_map IsBefore (pair_at (length d.domains)) (range_with_len 0 (n * length d.domains)) (λ i j z less under.
    let len = length-range_with_len 0 (n * length d.domains) in
    let at_i : get_or (range_with_len 0 (n * length d.domains)) i z ≡ 0 + i =
    get_or-range_with_len 0 (n * length d.domains) i z (omega arith) in
    let at_j : get_or (range_with_len 0 (n * length d.domains)) j z ≡ 0 + j =
    get_or-range_with_len 0 (n * length d.domains) j z (omega arith) in
    host_before (length d.domains) (get_or (range_with_len 0 (n * length d.domains)) i z) (get_or (range_with_len 0 (n * length d.domains)) j z) some (omega arith)))

-- ---- the ranges

order : (a b : ℤ) → (int_le (pos 0) a && int_le a b && int_le b (pos 4294967295)) ≡ true
    → (number_of a ≤ number_of b) × (number_of b < 2 ^ 32)
order (pos a) (pos b) h =
    let x = both (nat_le 0 a && nat_le a b) (nat_le b 4294967295) h in
    let y = both (nat_le 0 a) (nat_le a b) x.0 in
    let up = at_most a b y.1 in
    let most = at_most b 4294967295 x.1 in
    (up, omega arith)
order (pos a) (negsuc b) h = absurd (let x = both (nat_le 0 a && false) true h in let y = both (nat_le 0 a) false x.0 in let no : false ≡ true = y.1 in cc)
order (negsuc a) b h = absurd cc

-- two numbers that a test doesn't put into order
either_side : (a b c e : ℕ) → (nat_le a e && nat_le c b) ≡ false → (b < c) ⊎ (e < a)
either_side a b c e h = grind (arith, nat_tests)

apart : (a b c e : ℤ) → (int_le (pos 0) a && int_le a b && int_le b (pos 4294967295)) ≡ true
    → (int_le (pos 0) c && int_le c e && int_le e (pos 4294967295)) ≡ true → (int_le a e && int_le c b) ≡ false
    → (number_of b < number_of c) ⊎ (number_of e < number_of a)
apart (pos a) (pos b) (pos c) (pos e) h k f = either_side a b c e f
apart (pos a) (pos b) (pos c) (negsuc e) h k f = absurd (let x = both (nat_le 0 c && false) true k in let y = both (nat_le 0 c) false x.0 in let no : false ≡ true = y.1 in cc)
apart (pos a) (pos b) (negsuc c) e h k f = absurd cc
apart (pos a) (negsuc b) c e h k f = absurd (let x = both (nat_le 0 a && false) true h in let y = both (nat_le 0 a) false x.0 in let no : false ≡ true = y.1 in cc)
apart (negsuc a) b c e h k f = absurd cc

range_in : (n : ℕ) (x : DraftRange) → is_below n x.tile ≡ true → is_in_order x ≡ true → IsRangeIn n (range_of x)
unfolding is_in_order
range_in n x h k = let o = order x.first x.last k in (below n x.tile h, o.0, o.1)

range_apart : (i j : ℕ) (x y : DraftRange) → i < j → is_in_order x ≡ true → is_in_order y ≡ true
    → overlaps_later (0 + i) x (0 + j) y ≡ false → AreApart (range_of x) (range_of y)
unfolding is_in_order overlaps_later
range_apart i j x y less h k f =
    let up : nat_lt (0 + i) (0 + j) ≡ true = grind (arith, nat_tests) in
    apart x.first x.last y.first y.last h k (second (nat_lt (0 + i) (0 + j)) (int_le x.first y.last && int_le y.first x.last) f up)

few_ranges : (n : ℕ) (xs : List DraftRange) → range_tile_fault n xs ≡ None → length xs ≤ 1024
few_ranges n xs h =
    elim (cases_lt 1024 (length xs)) [
      | inl more ↦ absurd (let no : nat_le 1024 (0 + 1024) ≡ false = (good_tile n xs h 1024 (record { tile = pos 0; first = pos 0; last = pos 0 }) more).1 in cc)
      | inr less ↦ less
    ]

-- ---- the slots

-- slots that serve so many domains
pub record Served (n : ℕ) (slots : List ℕ) : Type 0 where
  pub count : (1 ≤ length slots) × (length slots ≤ 64)
  pub known : All (λ d. d < n) slots
  pub each : (d : ℕ) → d < n → Contains slots d

own : (n : ℕ) → 1 ≤ n → n ≤ 16 → Served n (range_with_len 0 n)
own n some few =
    let len = length-range_with_len 0 n in
    record {
      count = (omega arith, omega arith);
      known = λ k z less. let at : get_or (range_with_len 0 n) k z ≡ 0 + k = get_or-range_with_len 0 n k z (omega arith) in omega arith;
      each = λ d less. (d, omega arith, get_or-range_with_len 0 n d d less ∙ zero-add d);
    }

-- a domain of the name is found
found_at : (xs : List DraftDomain) (written : List ℕ) (n : ℕ) → is_domain xs written ≡ true
    → (k : ℕ) × (k < length xs) × (position_from (λ x. bytes_eq x.name written) n xs ≡ Some (n + k))
found_at [] written n h = absurd cc
found_at (x ∷ xs) written n h = here (bytes_eq x.name written) h (found_at xs written (n + 1))
  where
    here : (b : Bool) → (b || is_domain xs written) ≡ true
        → (is_domain xs written ≡ true → (k : ℕ) × (k < length xs) × (position_from (λ x. bytes_eq x.name written) (n + 1) xs ≡ Some (n + 1 + k)))
        → (k : ℕ) × (k < suc (length xs)) × (cond b (Some n) (position_from (λ x. bytes_eq x.name written) (n + 1) xs) ≡ Some (n + k))
    here true h rest = (0, omega arith, ap (λ (m : ℕ). Some m) (let same : n ≡ n + 0 = omega arith in same))
    here false h rest =
        let r = rest h in
        (suc r.0, omega (arith, r.1), r.2 ∙ ap (λ (m : ℕ). Some m) (let same : n + 1 + r.0 ≡ n + suc r.0 = omega arith in same))

number_below : (xs : List DraftDomain) (written : List ℕ) → is_domain xs written ≡ true
    → domain_number xs written < length xs
number_below xs written h =
    let found = found_at xs written 0 h in
    let at : domain_number xs written ≡ 0 + found.0 = ap (λ (o : Option ℕ). unwrap_or o 0) found.2 in
    omega (arith, found.1, at)

-- where names differ, the first domain of a domain's name is that domain
pub found_itself : (xs : List DraftDomain)
    → ((i j : ℕ) (d : DraftDomain) → i < j → j < length xs → bytes_eq (get_or xs i d).name (get_or xs j d).name ≡ false)
    → (n k : ℕ) (d : DraftDomain) → k < length xs
    → position_from (λ x. bytes_eq x.name (get_or xs k d).name) n xs ≡ Some (n + k)
found_itself [] apart n k d less = absurd (omega arith)
found_itself (x ∷ xs) apart n zero d less =
    let same : bytes_eq x.name x.name ≡ true = (bytes_eq-Decides x.name x.name).1 refl in
    let last : n ≡ n + 0 = omega arith in
    ap (λ (b : Bool). cond b (Some n) (position_from (λ y. bytes_eq y.name x.name) (n + 1) xs)) same
    ∙ ap (λ (m : ℕ). Some m) last
found_itself (x ∷ xs) apart n (suc k) d less =
    let other : bytes_eq x.name (get_or xs k d).name ≡ false = apart 0 (suc k) d (omega arith) less in
    let last : n + 1 + k ≡ n + suc k = omega arith in
    ap (λ (b : Bool). cond b (Some n) (position_from (λ y. bytes_eq y.name (get_or xs k d).name) (n + 1) xs)) other
    ∙ found_itself xs (λ i j z below under. apart (suc i) (suc j) z (omega arith) (omega arith)) (n + 1) k d (omega arith)
    ∙ ap (λ (m : ℕ). Some m) last

listed : (version : ℤ) (xs : List DraftDomain) (slots : List (List ℕ)) → domain_twice_fault xs ≡ None
    → int_eq version (pos 2) ≡ true → slot_count_fault version slots ≡ None → slot_unknown_fault xs slots ≡ None
    → slot_missing_fault version xs slots ≡ None → Served (length xs) (map (domain_number xs) slots)
listed version xs slots twice two count known missing =
    let size =
    between 1 64 (length slots) (denied _ (second (int_eq version (pos 2)) (not (is_between 1 64 (length slots))) (holds_not _ SlotCount count) two)) in
    let len : length (map (domain_number xs) slots) ≡ length slots = length-map slots (domain_number xs) in
    record {
      count = (omega arith, omega arith);
      known = All-map (λ (d : ℕ). d < length xs) (domain_number xs) slots (λ k z less. number_below xs (get_or slots k z) (slot_known xs slots known k z less));
      each = λ d less.
          let z : DraftDomain = record { name = []; channels = pos 0 } in
          let at =
          Any-from_list_any (λ other. bytes_eq other (get_or xs d z).name) slots (has_slot version xs slots missing two d z less) in
          let same : at.1 ≡ (get_or xs d z).name = (bytes_eq-Decides at.1 (get_or xs d z).name).0 at.4 in
          let itself : domain_number xs (get_or xs d z).name ≡ d =
          ap (λ (o : Option ℕ). unwrap_or o 0) (found_itself xs (names_apart xs twice) 0 d z less) ∙ zero-add d in
          (at.0, omega (arith, at.2), get_or-map (domain_number xs) slots at.0 at.1 d at.2 ∙ ap (domain_number xs) (at.3 ∙ same) ∙ itself);
    }

two_of : (version : ℤ) → is_within 1 2 version ≡ true → int_eq version (pos 1) ≡ false → int_eq version (pos 2) ≡ true
two_of (pos n) h k =
    let size = between 1 2 n h in
    elim (cases_lt 1 n) [
      | inl more ↦ (signed_Decides (pos n) (pos 2)).1 (ap (λ (m : ℕ). pos m) (let two : n ≡ 2 = omega arith in two))
      | inr less ↦ absurd (let one : int_eq (pos n) (pos 1) ≡ true = (signed_Decides (pos n) (pos 1)).1 (ap (λ (m : ℕ). pos m) (let same : n ≡ 1 = omega arith in same)) in cc)
    ]
two_of (negsuc n) h k = absurd cc

chosen : (b : Bool) (n : ℕ) (s t : List ℕ) → (b ≡ true → Served n s) → (b ≡ false → Served n t)
    → Served n (if b then s else t)
chosen true n s t x y = x refl
chosen false n s t x y = y refl

served : (d : Draft) → form_fault d ≡ None → domains_fault d ≡ None → slots_fault d ≡ None
    → Served (length d.domains) (slots_of d.version d.domains d.slots)
served d h k f =
    let parts = parted d k in
    let a = neither (slot_count_fault d.version d.slots) _ f in
    let b = neither (slot_unknown_fault d.domains d.slots) _ a.1 in
    let c = neither (slot_missing_fault d.version d.domains d.slots) _ b.1 in
    chosen (int_eq d.version (pos 1)) (length d.domains) (range_with_len 0 (length d.domains)) (map (domain_number d.domains) d.slots)
    (λ _. own (length d.domains) parts.count.0 parts.count.1)
    (λ other. listed d.version d.domains d.slots parts.apart (two_of d.version (formed d h).version other) a.0 b.0 c.0)

-- ---- the plan

pub sound : (d : Draft) → first_fault d ≡ None → IsSound (plan_of_draft d)
sound d none =
    let groups = neither (lists_fault d) _ none in
    let more = neither (sizes_fault d) _ groups.1 in
    let slots = neither (slots_fault d) _ more.1 in
    let a = neither (form_fault d) _ groups.0 in
    let b = neither (domains_fault d) _ a.1 in
    let c = neither (tiles_fault d) _ b.1 in
    let e = neither (ranges_fault d) _ c.1 in
    let tile = neither (range_tile_fault (tile_count d.dims) d.ranges) _ e.0 in
    let ordered = neither (range_order_fault d.ranges) _ tile.1 in
    let over = neither (range_overlap_fault d.ranges) _ ordered.1 in
    let many = neither (places_fault (places (plan_of_draft d))) _ more.0 in
    let attach = neither (attach_fault (length (hosts_of (tile_count d.dims) d.domains d.tiles))) _ many.1 in
    let form = formed d a.0 in
    let sides = sided d.version d.dims form.dims in
    let parts = parted d b.0 in
    let size = sized d a.0 b.0 in
    let serve = served d a.0 b.0 slots.0 in
    let len : length (map number_of d.dims) ≡ length d.dims = length-map d.dims number_of in
    let count : length (map domain_of d.domains) ≡ length d.domains = length-map d.domains domain_of in
    let ranges : length (map range_of d.ranges) ≡ length d.ranges = length-map d.ranges range_of in
    let few = few_ranges (tile_count d.dims) d.ranges tile.0 in
    record {
      dims = (let some = sides.count in omega arith, size.dims);
      sides = size.sides;
      tile_count = size.tile_count;
      stages = within 1 4 d.stages form.stages;
      buffer = within 1 16 d.buffer form.buffer;
      domains = (let some = parts.count in omega arith, size.domains);
      names = All-map (λ (x : DomainPart). IsName x.name) domain_of d.domains (λ k z less. name (get_or d.domains k z).name (good_name d.domains parts.names k z less));
      names_apart = pairs_map (λ (x y : DomainPart). x.name ≢ y.name) domain_of d.domains (λ i j z less under. unlike (get_or d.domains i z).name (get_or d.domains j z).name (names_apart d.domains parts.apart i j z less under));
      channels = size.channels;
      hosts = subst (λ (n : ℕ). All (λ (h : Host). (h.tile < tile_count d.dims) × (h.domain < n)) (hosts_of (tile_count d.dims) d.domains d.tiles)) (sym count) (hosts_within (tile_count d.dims) d parts.count.0);
      hosts_in_order = hosts_in_order (tile_count d.dims) d parts.count.0;
      host_count = not_above 256 _ (holds_not _ (AttachMany _) attach.0);
      ranges = All-map (IsRangeIn (tile_count d.dims)) range_of d.ranges (λ k z less. range_in (tile_count d.dims) (get_or d.ranges k z) (good_tile (tile_count d.dims) d.ranges tile.0 k z less).0 (in_order d.ranges ordered.0 k z less));
      ranges_apart = pairs_map AreApart range_of d.ranges (λ i j z less under. range_apart i j (get_or d.ranges i z) (get_or d.ranges j z) less (in_order d.ranges ordered.0 i z (omega arith)) (in_order d.ranges ordered.0 j z under) (ranges_apart d.ranges over.0 i j z less under));
      range_count = omega arith;
      place_count = not_above 24576 _ (holds_not _ (PlacesMany _) many.0);
      slot_count = serve.count;
      slots = subst (λ (n : ℕ). All (λ d. d < n) (slots_of d.version d.domains d.slots)) (sym count) serve.known;
      each_has_slot = λ i less. serve.each i (omega arith);
    }
