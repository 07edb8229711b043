-- A test that computes whether a plan is sound.
use Rattle.std.proofs.Common.{◌≡◌, ◌≢◌, ℕ, zero, suc, ◌<◌, ◌≤◌, inl, inr, Bool, true, false, ◌&&◌, ◌||◌, not, List, [], ◌∷◌, length, slice_index_or, refl, sym, ap, arith}
use Rattle.std.specs.Prelude.{nat_le, nat_lt, ◌==◌, All, AllPairs, Contains}
use Rattle.std.specs.List.{AllByRecursion, list_all, list_any}
use Rattle.std.proofs.lemmas.List.Elements.{All-from_recursion}
use Rattle.std.proofs.lemmas.Map.Views.{Contains-from_any}
use Rattle.std.proofs.lemmas.Bool.Decides.{nat_tests}
use Rattle.noc_model.specs.declared.plan.DomainPart.{DomainPart}
use Rattle.noc_model.specs.declared.Host.{Host}
use Rattle.noc_model.specs.declared.Range.{Range}
use Rattle.noc_model.specs.Limits.{most_tiles, most_stages, most_buffer, most_domains, most_channels, most_hosts, most_ranges, most_places, most_slots}
use Rattle.noc_model.specs.Plan.{Plan, tiles, places}
use Rattle.noc_model.specs.Sound.{IsSound, IsName, IsNameByte, IsBefore, IsRangeIn, AreApart}

-- ---- tests

abbrev within : ℕ → ℕ → ℕ → Bool
within low high n = nat_le low n && nat_le n high

-- 1 to 16 lower-case letters
abbrev is_word : List ℕ → Bool
is_word bs = within 1 16 (length bs) && list_all (within 97 122) bs

-- the names begin with different bytes
abbrev differ : DomainPart → DomainPart → Bool
differ x y = not (slice_index_or x.name 0 0 == slice_index_or y.name 0 0)

abbrev is_before : Host → Host → Bool
is_before h k = nat_lt h.tile k.tile || ((h.tile == k.tile) && nat_lt h.domain k.domain)

abbrev is_range_in : ℕ → Range → Bool
is_range_in n r = nat_lt r.tile n && (nat_le r.first r.last && nat_lt r.last 4294967296)

abbrev are_apart : Range → Range → Bool
are_apart q r = nat_lt q.last r.first || nat_lt r.last q.first

-- the test holds of each pair
abbrev pairs : {X : Type 0} → (X → X → Bool) → List X → Bool
pairs r [] = true
pairs r (x ∷ xs) = list_all (r x) xs && pairs r xs

-- each number below n is in the list
abbrev covers : ℕ → List ℕ → Bool
covers zero xs = true
covers (suc n) xs = list_any (λ m. n == m) xs && covers n xs

abbrev sizes : Plan → Bool
sizes p =
    within 1 3 (length p.dims) && (nat_le (tiles p) most_tiles && (within 1 most_stages p.stages && (within 1 most_buffer p.buffer && (within 1 most_domains (length p.domains)
    && (nat_le (length p.hosts) most_hosts && (nat_le (length p.ranges) most_ranges && (nat_le (places p) most_places && within 1 most_slots (length p.slots))))))))

abbrev lists : Plan → Bool
lists p =
    list_all (within 1 16) p.dims && (list_all (λ (x : DomainPart). is_word x.name) p.domains && (pairs differ p.domains
    && (list_all (λ (x : DomainPart). within 1 most_channels x.channels) p.domains && (list_all (λ (h : Host). nat_lt h.tile (tiles p) && nat_lt h.domain (length p.domains)) p.hosts
    && (pairs is_before p.hosts && (list_all (is_range_in (tiles p)) p.ranges && (pairs are_apart p.ranges
    && (list_all (λ d. nat_lt d (length p.domains)) p.slots && covers (length p.domains) p.slots))))))))

-- ---- what they say

-- pairs with the first element, and pairs of the rest
pairs-cons : {X : Type 0} (R : X → X → Type 0) (x : X) (xs : List X) → All (R x) xs → AllPairs R xs
    → AllPairs R (x ∷ xs)
pairs-cons R x xs first rest zero zero d less below = absurd (omega arith)
pairs-cons R x xs first rest zero (suc j) d less below = first j d (omega arith)
pairs-cons R x xs first rest (suc i) zero d less below = absurd (omega arith)
pairs-cons R x xs first rest (suc i) (suc j) d less below = rest i j d (omega arith) (omega arith)

both : (a b : Bool) → (a && b) ≡ true → (a ≡ true) × (b ≡ true)
both true b h = (refl, h)
both false b h = absurd (cc)

le : (m n : ℕ) → nat_le m n ≡ true → m ≤ n
le m n h = grind (arith, nat_tests)

lt : (m n : ℕ) → nat_lt m n ≡ true → m < n
lt m n h = grind (arith, nat_tests)

eq : (m n : ℕ) → (m == n) ≡ true → m ≡ n
eq m n h = grind (arith, nat_tests)

within-says : (low high n : ℕ) → within low high n ≡ true → (low ≤ n) × (n ≤ high)
within-says low high n h = let parts = both (nat_le low n) (nat_le n high) h in (le low n parts.0, le n high parts.1)

recursion : {X : Type 0} (p : X → Bool) (P : X → Type 0) → ((x : X) → p x ≡ true → P x) → (xs : List X)
    → list_all p xs ≡ true → AllByRecursion P xs
recursion p P each [] h = tt
recursion p P each (x ∷ xs) h =
    let parts = both (p x) (list_all p xs) h in
    (each x parts.0, recursion p P each xs parts.1)

all : {X : Type 0} (p : X → Bool) (P : X → Type 0) → ((x : X) → p x ≡ true → P x) → (xs : List X) → list_all p xs ≡ true
    → All P xs
all p P each xs h = All-from_recursion P xs (recursion p P each xs h)

all_pairs : {X : Type 0} (r : X → X → Bool) (R : X → X → Type 0) → ((x y : X) → r x y ≡ true → R x y) → (xs : List X)
    → pairs r xs ≡ true → AllPairs R xs
all_pairs r R each [] h = λ i j d less below. absurd (omega arith)
all_pairs r R each (x ∷ xs) h =
    let parts = both (list_all (r x) xs) (pairs r xs) h in
    pairs-cons R x xs (all (r x) (R x) (each x) xs parts.0) (all_pairs r R each xs parts.1)

word : (bs : List ℕ) → is_word bs ≡ true → IsName bs
word bs h =
    let parts = both (within 1 16 (length bs)) _ h in
    let size = within-says 1 16 (length bs) parts.0 in
    (size.0, size.1, all (within 97 122) IsNameByte (λ b is. inr (inr (inl (within-says 97 122 b is)))) bs parts.1)

names : (x y : DomainPart) → differ x y ≡ true → x.name ≢ y.name
names x y h e =
    let same : slice_index_or x.name 0 0 ≡ slice_index_or y.name 0 0 = ap (λ (bs : List ℕ). slice_index_or bs 0 0) e in
    grind (arith, nat_tests)

before : (h k : Host) → is_before h k ≡ true → IsBefore h k
before h k is = go (nat_lt h.tile k.tile) refl
  where
    go : (b : Bool) → nat_lt h.tile k.tile ≡ b → IsBefore h k
    go true e = inl (lt h.tile k.tile e)
    go false e =
        let second : ((h.tile == k.tile) && nat_lt h.domain k.domain) ≡ true = rw e at is in
        let parts = both (h.tile == k.tile) (nat_lt h.domain k.domain) second in
        inr (eq h.tile k.tile parts.0, lt h.domain k.domain parts.1)

range_in : (n : ℕ) (r : Range) → is_range_in n r ≡ true → IsRangeIn n r
range_in n r h =
    let a = both (nat_lt r.tile n) _ h in
    let b = both (nat_le r.first r.last) _ a.1 in
    (lt r.tile n a.0, le r.first r.last b.0, lt r.last 4294967296 b.1)

apart : (q r : Range) → are_apart q r ≡ true → AreApart q r
apart q r is = go (nat_lt q.last r.first) refl
  where
    go : (b : Bool) → nat_lt q.last r.first ≡ b → AreApart q r
    go true e = inl (lt q.last r.first e)
    go false e = let second : nat_lt r.last q.first ≡ true = rw e at is in inr (lt r.last q.first second)

covered : (n : ℕ) (xs : List ℕ) → covers n xs ≡ true → (d : ℕ) → d < n → Contains xs d
covered zero xs h d less = absurd (omega arith)
covered (suc n) xs h d less = go (n == d) refl (λ low. covered n xs parts.1 d low)
  where
    parts : (list_any (λ m. n == m) xs ≡ true) × (covers n xs ≡ true)
    parts = both (list_any (λ m. n == m) xs) (covers n xs) h

    go : (b : Bool) → (n == d) ≡ b → (d < n → Contains xs d) → Contains xs d
    go true e rest =
        let same : n ≡ d = eq n d e in
        rw (sym same) (Contains-from_any eq n xs parts.0)
    go false e rest = rest (grind (arith, nat_tests))

-- a plan that passes is sound
pub sound : (p : Plan) → sizes p ≡ true → lists p ≡ true → IsSound p
sound p s l =
    let s1 = both (within 1 3 (length p.dims)) _ s in
    let s2 = both (nat_le (tiles p) most_tiles) _ s1.1 in
    let s3 = both (within 1 most_stages p.stages) _ s2.1 in
    let s4 = both (within 1 most_buffer p.buffer) _ s3.1 in
    let s5 = both (within 1 most_domains (length p.domains)) _ s4.1 in
    let s6 = both (nat_le (length p.hosts) most_hosts) _ s5.1 in
    let s7 = both (nat_le (length p.ranges) most_ranges) _ s6.1 in
    let s8 = both (nat_le (places p) most_places) _ s7.1 in
    let l1 = both (list_all (within 1 16) p.dims) _ l in
    let l2 = both (list_all (λ (x : DomainPart). is_word x.name) p.domains) _ l1.1 in
    let l3 = both (pairs differ p.domains) _ l2.1 in
    let l4 = both (list_all (λ (x : DomainPart). within 1 most_channels x.channels) p.domains) _ l3.1 in
    let l5 =
    both (list_all (λ (h : Host). nat_lt h.tile (tiles p) && nat_lt h.domain (length p.domains)) p.hosts) _ l4.1 in
    let l6 = both (pairs is_before p.hosts) _ l5.1 in
    let l7 = both (list_all (is_range_in (tiles p)) p.ranges) _ l6.1 in
    let l8 = both (pairs are_apart p.ranges) _ l7.1 in
    let l9 = both (list_all (λ d. nat_lt d (length p.domains)) p.slots) _ l8.1 in
    record {
      dims = within-says 1 3 (length p.dims) s1.0;
      sides = all (within 1 16) (λ k. (1 ≤ k) × (k ≤ 16)) (within-says 1 16) p.dims l1.0;
      tile_count = le (tiles p) most_tiles s2.0;
      stages = within-says 1 most_stages p.stages s3.0;
      buffer = within-says 1 most_buffer p.buffer s4.0;
      domains = within-says 1 most_domains (length p.domains) s5.0;
      names = all (λ (x : DomainPart). is_word x.name) (λ (x : DomainPart). IsName x.name) (λ (x : DomainPart). word x.name) p.domains l2.0;
      names_apart = all_pairs differ (λ (x y : DomainPart). x.name ≢ y.name) names p.domains l3.0;
      channels = all (λ (x : DomainPart). within 1 most_channels x.channels) (λ (x : DomainPart). (1 ≤ x.channels) × (x.channels ≤ most_channels)) (λ (x : DomainPart). within-says 1 most_channels x.channels) p.domains l4.0;
      hosts = all (λ (h : Host). nat_lt h.tile (tiles p) && nat_lt h.domain (length p.domains)) (λ (h : Host). (h.tile < tiles p) × (h.domain < length p.domains))
          (λ (h : Host) is. let parts = both (nat_lt h.tile (tiles p)) _ is in (lt h.tile (tiles p) parts.0, lt h.domain (length p.domains) parts.1)) p.hosts l5.0;
      hosts_in_order = all_pairs is_before IsBefore before p.hosts l6.0;
      host_count = le (length p.hosts) most_hosts s6.0;
      ranges = all (is_range_in (tiles p)) (IsRangeIn (tiles p)) (range_in (tiles p)) p.ranges l7.0;
      ranges_apart = all_pairs are_apart AreApart apart p.ranges l8.0;
      range_count = le (length p.ranges) most_ranges s7.0;
      place_count = le (places p) most_places s8.0;
      slot_count = within-says 1 most_slots (length p.slots) s8.1;
      slots = all (λ d. nat_lt d (length p.domains)) (λ d. d < length p.domains) (λ d. lt d (length p.domains)) p.slots l9.0;
      each_has_slot = covered (length p.domains) p.slots l9.1;
    }
