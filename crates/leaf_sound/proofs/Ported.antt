-- The ports of a leaf: each has a name of its own, and each output port is driven.
use Rattle.std.proofs.Common.{◌≡◌, ℕ, zero, suc, ◌+◌, ◌*◌, ◌^◌, ◌<◌, ◌≤◌, inl, inr, Bool, true, false, List, [], ◌∷◌, ◌++◌, map, length, refl, sym, ◌∙◌, ap, subst, arith, lit≤, flat_map, filter, Option, Some, None, if◌then◌else◌, bytes_eq, ◌==◌, nat_lt, slice_index_or, All, AllPairs}
use Rattle.std.proofs.lemmas.Bool.Decides.{nat_tests}
use Rattle.vl_tree.specs.declared.tree.Port.{Port}
use Rattle.vl_tree.specs.Values.{Name}
use Rattle.vl_model.specs.Meaning.{one_if}
use Rattle.vl_model.proofs.Settling.{one-name}
use Rattle.noc_model.specs.declared.Host.{Host}
use Rattle.noc_model.specs.Plan.{Plan, ports, tiles}
use Rattle.noc_model.specs.Place.{neighbour, opposite}
use Rattle.noc_model.specs.Sound.{IsSound, IsBefore}
use Rattle.noc_model.specs.Events.{tabulate}
use Rattle.gen_kit.specs.Ports.{host_ports}
use Rattle.gen_kit.specs.Shape.{Tied, host_ties, link_ties, tile_ties, tile_head, credit_bits, second_ties}
use Rattle.leaf_sound.proofs.Keyed.{place, two-place, three-place}

-- ---- ports in rising places

abbrev pub RiseByPlace : ℕ → ℕ → List Port → Type 0
RiseByPlace low high [] = low ≤ high
RiseByPlace low high (q ∷ qs) = (low ≤ place q.name) × RiseByPlace (place q.name + 1) high qs

pub record PortsRise (low high : ℕ) (ps : List Port) : Type 0 where
  pub by : RiseByPlace low high ps

lower : (low more high : ℕ) (ps : List Port) → low ≤ more → RiseByPlace more high ps → RiseByPlace low high ps
lower low more high [] le r = omega arith
lower low more high (q ∷ qs) le r = ((let first = r.0 in omega (arith, first)), r.1)

joined : (low middle high : ℕ) (a b : List Port) → RiseByPlace low middle a → RiseByPlace middle high b → RiseByPlace low high (a ++ b)
joined low middle high [] b x y = lower low middle high b x y
joined low middle high (q ∷ qs) b x y = (x.0, joined (place q.name + 1) middle high qs b x.1 y)

no-ports : (low high : ℕ) → low ≤ high → PortsRise low high []
no-ports low high le = record { by = le }

port-next : {q : Port} {qs : List Port} (low r next high : ℕ) → place q.name ≡ r → low ≤ r → r < next → PortsRise next high qs → PortsRise low high (q ∷ qs)
port-next {q} {qs} low r next high e le less more = record { by = subst (λ k. (low ≤ k) × RiseByPlace (k + 1) high qs) (sym e) (le, lower (r + 1) next high qs (omega arith) more.by) }

ports-wider : {qs : List Port} (low more high : ℕ) → low ≤ more → PortsRise more high qs → PortsRise low high qs
ports-wider {qs} low more high le r = record { by = lower low more high qs le r.by }

ports-join : {a b : List Port} (low middle high : ℕ) → PortsRise low middle a → PortsRise middle high b → PortsRise low high (a ++ b)
ports-join {a} {b} low middle high x y = record { by = joined low middle high a b x.by y.by }

-- how many of the ports have the name
abbrev pub named : Name → List Port → ℕ
named x [] = 0
named x (q ∷ qs) = one_if (bytes_eq x q.name) + named x qs

none-below : (low high : ℕ) (ps : List Port) (x : Name) → RiseByPlace low high ps → place x < low → named x ps ≡ 0
none-below low high [] x r less = refl
none-below low high (q ∷ qs) x r less = go (bytes_eq x q.name) refl (let first = r.0 in none-below (place q.name + 1) high qs x r.1 (omega (arith, first)))
  where
    go : (b : Bool) → bytes_eq x q.name ≡ b → named x qs ≡ 0 → one_if b + named x qs ≡ 0
    go false e rest = rw rest refl
    go true e rest = absurd (let first = r.0 in omega (arith, first, ap place (one-name x q.name e)))

named-once : (low high : ℕ) (ps : List Port) (x : Name) → RiseByPlace low high ps → named x ps ≤ 1
named-once low high [] x r = lit≤ tt
named-once low high (q ∷ qs) x r = go (bytes_eq x q.name) refl (named-once (place q.name + 1) high qs x r.1)
  where
    go : (b : Bool) → bytes_eq x q.name ≡ b → named x qs ≤ 1 → one_if b + named x qs ≤ 1
    go false e rest = omega (arith, rest)
    go true e rest = let same : place x ≡ place q.name = ap place (one-name x q.name e) in let none = none-below (place q.name + 1) high qs x r.1 (omega (arith, same)) in omega (arith, none)

-- ---- the ports of a tile

map-append : (a b : List Tied) → map (λ (t : Tied). t.port) (a ++ b) ≡ map (λ (t : Tied). t.port) a ++ map (λ (t : Tied). t.port) b
map-append [] b = refl
map-append (t ∷ a) b = ap (λ z. t.port ∷ z) (map-append a b)

pairs-first : (h : Host) (hs : List Host) → AllPairs IsBefore (h ∷ hs) → (k : ℕ) (d : Host) → k < length hs → IsBefore h (slice_index_or hs k d)
pairs-first h hs pairs k d less = pairs 0 (suc k) d (omega arith) (omega arith)

pairs-rest : (h : Host) (hs : List Host) → AllPairs IsBefore (h ∷ hs) → AllPairs IsBefore hs
pairs-rest h hs pairs i j d less below = pairs (suc i) (suc j) d (omega arith) (omega arith)

all-rest : (P : Host → Type 0) (h : Host) (hs : List Host) → All P (h ∷ hs) → All P hs
all-rest P h hs all k d less = all (suc k) d (omega arith)

module _ (p : Plan) (n : ℕ) (sound : IsSound p) (inside : n < tiles p) where
  small : n < 2 ^ 64
  small = let most = sound.tile_count in omega (arith, most)

  few-domains : length p.domains ≤ 16
  few-domains = sound.domains.1

  few-ports : ports p ≤ 7
  few-ports = let most = sound.dims.1 in omega (arith, most)

  -- ---- those of attachments

  attachment-rises : (h : Host) → h.tile ≡ n → h.domain < 16 → {qs : List Port} → PortsRise (32 * suc h.domain) 4096 qs → PortsRise (32 * h.domain) 4096 (host_ports h ++ qs)
  attachment-rises h is less more =
      let at : h.tile < 2 ^ 64 = omega (arith, is, small) in
      let low : h.domain < 2 ^ 64 = omega arith in
      port-next (32 * h.domain) (32 * h.domain + 1) (32 * h.domain + 2) 4096 (two-place 111 118 h.tile h.domain at low) (omega arith) (omega arith)
      (port-next (32 * h.domain + 2) (32 * h.domain + 2) (32 * h.domain + 3) 4096 (two-place 111 97 h.tile h.domain at low) (omega arith) (omega arith)
      (port-next (32 * h.domain + 3) (32 * h.domain + 3) (32 * h.domain + 4) 4096 (two-place 111 112 h.tile h.domain at low) (omega arith) (omega arith)
      (port-next (32 * h.domain + 4) (32 * h.domain + 4) (32 * h.domain + 5) 4096 (two-place 111 108 h.tile h.domain at low) (omega arith) (omega arith)
      (port-next (32 * h.domain + 5) (32 * h.domain + 5) (32 * h.domain + 6) 4096 (two-place 104 114 h.tile h.domain at low) (omega arith) (omega arith)
      (port-next (32 * h.domain + 6) (32 * h.domain + 6) (32 * h.domain + 7) 4096 (two-place 114 100 h.tile h.domain at low) (omega arith) (omega arith)
      (port-next (32 * h.domain + 7) (32 * h.domain + 7) (32 * h.domain + 8) 4096 (two-place 100 114 h.tile h.domain at low) (omega arith) (omega arith)
      (port-next (32 * h.domain + 8) (32 * h.domain + 8) (32 * h.domain + 9) 4096 (two-place 101 118 h.tile h.domain at low) (omega arith) (omega arith)
      (port-next (32 * h.domain + 9) (32 * h.domain + 9) (32 * h.domain + 10) 4096 (two-place 101 104 h.tile h.domain at low) (omega arith) (omega arith)
      (port-next (32 * h.domain + 10) (32 * h.domain + 10) (32 * h.domain + 11) 4096 (two-place 101 116 h.tile h.domain at low) (omega arith) (omega arith)
      (port-next (32 * h.domain + 11) (32 * h.domain + 11) (32 * suc h.domain) 4096 (two-place 101 112 h.tile h.domain at low) (omega arith) (omega arith) more))))))))))

  hosts-rise : (hs : List Host) → AllPairs IsBefore hs → All (λ (h : Host). h.domain < 16) hs → (low : ℕ) → low ≤ 16 → ((k : ℕ) (d : Host) → k < length hs → (slice_index_or hs k d).tile ≡ n → low ≤ (slice_index_or hs k d).domain)
      → PortsRise (32 * low) 4096 (map (λ (t : Tied). t.port) (flat_map host_ties (filter (λ (h : Host). h.tile == n) hs)))
  hosts-rise [] pairs few low le above = no-ports (32 * low) 4096 (omega arith)
  hosts-rise (h ∷ hs) pairs few low le above = go (hosts-rise hs (pairs-rest h hs pairs) (all-rest (λ (h : Host). h.domain < 16) h hs few)) (h.tile == n) refl
    where
      low_domain : h.domain < 16
      low_domain = few 0 h (omega arith)

      later : h.tile ≡ n → (k : ℕ) (d : Host) → k < length hs → (slice_index_or hs k d).tile ≡ n → suc h.domain ≤ (slice_index_or hs k d).domain
      later is k d less same = by (pairs-first h hs pairs k d less)
        where
          by : IsBefore h (slice_index_or hs k d) → suc h.domain ≤ (slice_index_or hs k d).domain
          by (inl tile) = absurd (omega (arith, tile, is, same))
          by (inr both) = let more = both.1 in omega (arith, more)

      go : ((next : ℕ) → next ≤ 16 → ((k : ℕ) (d : Host) → k < length hs → (slice_index_or hs k d).tile ≡ n → next ≤ (slice_index_or hs k d).domain) → PortsRise (32 * next) 4096 (map (λ (t : Tied). t.port) (flat_map host_ties (filter (λ (h : Host). h.tile == n) hs))))
          → (b : Bool) → (h.tile == n) ≡ b → PortsRise (32 * low) 4096 (map (λ (t : Tied). t.port) (flat_map host_ties (if b then h ∷ filter (λ (h : Host). h.tile == n) hs else filter (λ (h : Host). h.tile == n) hs)))
      go rest true e =
          let is : h.tile ≡ n = grind (arith, nat_tests, e) in
          let first = above 0 h (omega arith) is in
          ports-wider (32 * low) (32 * h.domain) 4096 (omega (arith, first))
          (attachment-rises h is low_domain (rest (suc h.domain) (omega (arith, low_domain)) (later is)))
      go rest false e = rest low le (λ k d less same. above (suc k) d (omega arith) same)

  -- ---- those of links

  link-rises : (q m : ℕ) → q < 8 → PortsRise (4096 + 32 * q) (4096 + 32 * suc q) (map (λ (t : Tied). t.port) (link_ties p n q (Some m)))
  link-rises q m less =
      let low : q < 2 ^ 64 = omega arith in
      port-next (4096 + 32 * q) (4096 + (32 * q + 12)) (4096 + (32 * q + 13)) (4096 + 32 * suc q) (two-place 108 105 n q small low) (omega arith) (omega arith)
      (port-next (4096 + (32 * q + 13)) (4096 + (32 * q + 13)) (4096 + (32 * q + 14)) (4096 + 32 * suc q) (two-place 108 111 n q small low) (omega arith) (omega arith)
      (port-next (4096 + (32 * q + 14)) (4096 + (32 * q + 14)) (4096 + (32 * q + 15)) (4096 + 32 * suc q) (two-place 99 105 n q small low) (omega arith) (omega arith)
      (port-next (4096 + (32 * q + 15)) (4096 + (32 * q + 15)) (4096 + (32 * q + 16)) (4096 + 32 * suc q) (two-place 99 111 n q small low) (omega arith) (omega arith)
      (go (nat_lt 64 (credit_bits p))))))
    where
      go : (b : Bool) → PortsRise (4096 + (32 * q + 16)) (4096 + 32 * suc q) (map (λ (t : Tied). t.port) (if b then second_ties p n q m (opposite q) else []))
      go true =
          let low : q < 2 ^ 64 = omega arith in
          port-next (4096 + (32 * q + 16)) (4096 + (32 * q + 16)) (4096 + (32 * q + 17)) (4096 + 32 * suc q) (three-place 99 105 n q small low) (omega arith) (omega arith)
          (port-next (4096 + (32 * q + 17)) (4096 + (32 * q + 17)) (4096 + 32 * suc q) (4096 + 32 * suc q) (three-place 99 111 n q small low) (omega arith) (omega arith)
          (no-ports (4096 + 32 * suc q) (4096 + 32 * suc q) (omega arith)))
      go false = no-ports (4096 + (32 * q + 16)) (4096 + 32 * suc q) (omega arith)

  links-rise : (k first : ℕ) (f : ℕ → ℕ) → ((i : ℕ) → f i ≡ first + i) → k + first ≤ 7 → PortsRise (4096 + 32 * first) 8192 (map (λ (t : Tied). t.port) (flat_map (λ q. link_ties p n q (neighbour p n q)) (tabulate k f)))
  links-rise zero first f is le = no-ports (4096 + 32 * first) 8192 (omega arith)
  links-rise (suc k) first f is le =
      let at : f 0 ≡ first = is 0 ∙ omega arith in
      let rest = links-rise k (suc first) (λ i. f (suc i)) (λ i. is (suc i) ∙ omega arith) (omega arith) in
      subst (PortsRise (4096 + 32 * first) 8192) (sym (map-append (link_ties p n (f 0) (neighbour p n (f 0))) (flat_map (λ q. link_ties p n q (neighbour p n q)) (tabulate k (λ i. f (suc i))))))
      (ports-join (4096 + 32 * first) (4096 + 32 * suc first) 8192
      (subst (λ q. PortsRise (4096 + 32 * first) (4096 + 32 * suc first) (map (λ (t : Tied). t.port) (link_ties p n q (neighbour p n q)))) (sym at) (one (neighbour p n first)))
      rest)
    where
      one : (m : Option ℕ) → PortsRise (4096 + 32 * first) (4096 + 32 * suc first) (map (λ (t : Tied). t.port) (link_ties p n first m))
      one None = no-ports (4096 + 32 * first) (4096 + 32 * suc first) (omega arith)
      one (Some m) = link-rises first m (omega arith)

  -- no two ports have one name
  pub port-once : (x : Name) → named x (tile_head p n).ports ≤ 1
  port-once x =
      let all = subst (PortsRise 0 8192) (sym (map-append (flat_map host_ties (filter (λ (h : Host). h.tile == n) p.hosts)) (flat_map (λ q. link_ties p n q (neighbour p n q)) (tabulate (ports p) (λ q. q)))))
      (ports-join 0 4096 8192
      (hosts-rise p.hosts sound.hosts_in_order (λ k d less. let inside = (sound.hosts k d less).1 in let few = few-domains in omega (arith, inside, few)) 0 (omega arith) (λ k d less same. omega arith))
      (links-rise (ports p) 0 (λ q. q) (λ i. omega arith) (let few = few-ports in omega (arith, few)))) in
      named-once 0 8192 (tile_head p n).ports x all.by
