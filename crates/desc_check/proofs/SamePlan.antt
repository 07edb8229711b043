-- The draft of a sound plan says the same plan.
use Rattle.std.proofs.Common.{◌≡◌, ℕ, suc, ◌+◌, ◌*◌, ◌/◌, ◌%◌, ◌<◌, ◌≤◌, inl, inr, Bool, true, false, List, [], ◌∷◌, length, map, get_or, Option, refl, sym, ap, ◌∙◌, subst, arith, zero-add}
use Rattle.std.specs.Prelude.{codes, All, Contains, if◌then◌else◌}
use Rattle.std.specs.Option.{unwrap_or}
use Rattle.std.specs.List.{filter, range_with_len}
use Rattle.std.specs.Str.{bytes_eq}
use Rattle.std.proofs.lemmas.Bool.Decides.{nat_tests}
use Rattle.std.proofs.lemmas.Nat.{mul-add-lt, div-mul-add, mod-mul-add}
use Rattle.std.proofs.Math.Nat.{mul_comm}
use Rattle.std.proofs.lemmas.List.{length-map, get_or-map}
use Rattle.std.proofs.lemmas.List.FromFn.{length-map-range_with_len, get_or-map-range_with_len}
use Rattle.std.proofs.lemmas.List.Elements.{All-contains}
use Rattle.std.proofs.lemmas.Option.{slice_get_within, get_or_from_slice_get}
use Rattle.noc_model.specs.declared.plan.DomainPart.{DomainPart}
use Rattle.noc_model.specs.declared.Host.{Host}
use Rattle.noc_model.specs.declared.Range.{Range}
use Rattle.noc_model.specs.Plan.{Plan, tiles, hosts, is_host, name_of}
use Rattle.noc_model.specs.Sound.{IsSound, IsBefore}
use Rattle.noc_model.proofs.HostTiles.{attached}
use Rattle.noc_desc.specs.declared.Draft.{Draft}
use Rattle.noc_desc.specs.declared.DraftDomain.{DraftDomain}
use Rattle.desc_check.specs.Network.{tile_count, domain_of, range_of, name_at, is_hosted, pair_at, hosts_of, domain_number, plan_of_draft}
use Rattle.desc_check.specs.Upgrade.{tile_of, hosting, domain_draft, range_draft, upgrade_of}
use Rattle.desc_check.proofs.Judged.{names_apart}
use Rattle.desc_check.proofs.Sound.{hosts_within, hosts_in_order, found_itself}
use Rattle.desc_check.proofs.Members.{kept, passed, there, one-list}
use Rattle.desc_check.proofs.Drafted.{name-drafted, name-is, hosts-drafted, drafted-hosts}
use Rattle.desc_check.proofs.Faultless.{back, tiles-drafted, twice-none}
use Rattle.desc_check.proofs.Upgraded.{nobody}

-- ---- values

shape-back : (b : Bool) → bytes_eq (if b then codes "torus" else codes "mesh") (codes "torus") ≡ b
shape-back true = refl
shape-back false = refl

domains-back : (xs : List DomainPart) → map domain_of (map domain_draft xs) ≡ xs
domains-back [] = refl
domains-back (x ∷ xs) = ap (λ rest. x ∷ rest) (domains-back xs)

ranges-back : (rs : List Range) → map range_of (map range_draft rs) ≡ rs
ranges-back [] = refl
ranges-back (r ∷ rs) = ap (λ rest. r ∷ rest) (ranges-back rs)

-- ---- slots

-- the number of the domain with the name of domain d is d
number-back : (p : Plan) → IsSound p → (d : ℕ) → d < length p.domains
    → domain_number (map domain_draft p.domains) (name_of p d) ≡ d
number-back p sound d less =
    let xs : List DraftDomain = map domain_draft p.domains in
    let len : length xs ≡ length p.domains = length-map p.domains domain_draft in
    let z : DraftDomain = domain_draft nobody in
    let at : get_or xs d z ≡ domain_draft (get_or p.domains d nobody) =
    get_or-map domain_draft p.domains d nobody z less in
    let named : (get_or xs d z).name ≡ name_of p d = ap (λ (x : DraftDomain). x.name) at ∙ sym
    (name-is p d nobody less) in
    ap (domain_number xs) (sym named) ∙ ap (λ (o : Option ℕ). unwrap_or o 0)
    (found_itself xs (names_apart xs (twice-none p sound)) 0 d z (omega arith)) ∙ zero-add d

numbers-back : (p : Plan) → IsSound p → (ds : List ℕ) → All (λ d. d < length p.domains) ds
    → map (domain_number (map domain_draft p.domains)) (map (name_of p) ds) ≡ ds
numbers-back p sound [] below = refl
numbers-back p sound (d ∷ ds) below =
    ap (λ (e : ℕ). e ∷ map (domain_number (map domain_draft p.domains)) (map (name_of p) ds))
    (number-back p sound d (below 0 d (omega arith)))
    ∙ ap (λ rest. d ∷ rest) (numbers-back p sound ds (λ k z less. below (suc k) z (omega (arith, less))))

-- ---- hosts

one-way : (h k : Host) → IsBefore h k → IsBefore k h → ⊥
one-way h k (inl a) (inl b) = omega arith
one-way h k (inl a) (inr b) = omega (arith, b.0)
one-way h k (inr a) (inl b) = omega (arith, a.0)
one-way h k (inr a) (inr b) = omega (arith, a.1, b.1)

-- tile n hosts domain d where that pair is a host
host-of : (p : Plan) (n d : ℕ) → hosts p n d ≡ true → Contains p.hosts (record { tile = n; domain = d })
host-of p n d h =
    let has = attached p n d h in
    let host : Host = record { tile = n; domain = d } in
    let is = get_or_from_slice_get p.hosts has.number host host has.at in
    (has.number, slice_get_within p.hosts has.number host has.at, is)

is-itself : (h : Host) → is_host h.tile h.domain h ≡ true
is-itself h = grind (arith, nat_tests)

-- each pair of a tile and a domain is one of the pairs
pair-listed : (n count : ℕ) (h : Host) → h.tile < n → h.domain < count
    → Contains (map (pair_at count) (range_with_len 0 (n * count))) h
pair-listed n count h in-n in-count =
    let k : ℕ = h.tile * count + h.domain in
    let less : k < n * count = omega (arith, mul-add-lt h.tile count h.domain n in-n in-count, mul_comm n count) in
    let len = length-map-range_with_len (pair_at count) 0 (n * count) in
    let tile : k / count ≡ h.tile = div-mul-add h.tile count h.domain in-count in
    let domain : k % count ≡ h.domain = mod-mul-add h.tile count h.domain in-count in (
      k,
      omega arith,
      get_or-map-range_with_len (pair_at count) 0 (n * count) k k h less (zero-add k) ∙
          (λ t. record { tile = tile t; domain = domain t }),
    )

-- the pairs of a tile and a domain that the draft names are the plan's hosts
hosts-back : (p : Plan) → IsSound p
    → hosts_of (tiles p) (map domain_draft p.domains) (map (tile_of p) (hosting p)) ≡ p.hosts
hosts-back p sound =
    let d : Draft = upgrade_of p in
    let count : ℕ = length d.domains in
    let len : count ≡ length p.domains = length-map p.domains domain_draft in
    let some : 1 ≤ count = omega (arith, sound.domains.0) in
    let named : Host → Bool = (λ h. is_hosted d.tiles h.tile (name_at d.domains h.domain)) in
    let pairs : List Host = map (pair_at count) (range_with_len 0 (tiles p * count)) in
    one-list IsBefore one-way (filter named pairs) p.hosts (hosts_in_order (tiles p) d some) sound.hosts_in_order
    (λ h inside.
    (let within = All-contains (λ (x : Host). (x.tile < tiles p) × (x.domain < count)) (filter named pairs) h
    (hosts_within (tiles p) d some) inside in
    let test : named h ≡ true = (passed named pairs h inside).1 in
    host-of p h.tile h.domain (hosts-drafted p sound h.tile h.domain (omega (arith, within.1, len))
    (subst (λ (name : List ℕ). is_hosted d.tiles h.tile name ≡ true) (name-drafted p.domains h.domain) test))))
    (λ h inside.
    (let within = All-contains (λ (x : Host). (x.tile < tiles p) ×
    (x.domain < length p.domains)) p.hosts h sound.hosts inside in
    let test : hosts p h.tile h.domain ≡ true = there (is_host h.tile h.domain) p.hosts h inside (is-itself h) in
    kept named pairs h (pair-listed (tiles p) count h within.0 (omega (arith, within.1, len)))
    (subst (λ (name : List ℕ). is_hosted d.tiles h.tile name ≡ true) (sym (name-drafted p.domains h.domain))
    (drafted-hosts p h.tile h.domain within.0 within.1 test))))

-- ---- the plan

pub same-plan : (p : Plan) → IsSound p → plan_of_draft (upgrade_of p) ≡ p
same-plan p sound =
    let shape = shape-back p.torus in
    let dims = back p.dims in
    let domains = domains-back p.domains in
    let hosted : hosts_of (tile_count (upgrade_of p).dims) (map domain_draft p.domains)
    (map (tile_of p) (hosting p)) ≡ p.hosts =
    ap (λ (n : ℕ). hosts_of n (map domain_draft p.domains) (map (tile_of p) (hosting p))) (tiles-drafted p)
    ∙ hosts-back p sound in
    let ranges = ranges-back p.ranges in
    let slots = numbers-back p sound p.slots sound.slots in
    λ t. record {
      torus = shape t;
      dims = dims t;
      stages = p.stages;
      buffer = p.buffer;
      domains = domains t;
      hosts =
          hosted t;
      ranges = ranges t;
      slots = slots t;
    }
