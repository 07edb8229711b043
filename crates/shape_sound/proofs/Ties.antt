-- The ties of a tile: their ports' names, the nets of those that give out, and what holds of each tie.
use Rattle.std.proofs.Common.{◌≡◌, ℕ, suc, ◌+◌, ◌*◌, ◌<◌, ◌≤◌, inl, inr, Bool, true, false, List, [], ◌∷◌, ◌++◌, map, length, drop, Option, refl, sym, ◌∙◌, ap, subst, arith, ◌==◌}
use Rattle.std.specs.Prelude.{slice_index_or, Some, None, filter, flat_map, nat_lt, if◌then◌else◌, codes}
use Rattle.std.specs.List.{AllByRecursion, AllPairs}
use Rattle.vl_tree.specs.declared.tree.Port.{Port}
use Rattle.vl_tree.specs.Values.{Name}
use Rattle.noc_model.specs.declared.Host.{Host}
use Rattle.noc_model.specs.Events.{tabulate}
use Rattle.noc_model.specs.Plan.{Plan, ports}
use Rattle.noc_model.specs.Place.{neighbour, opposite}
use Rattle.noc_model.specs.Sound.{IsBefore}
use Rattle.gen_kit.specs.Ports.{name_with, host_name, host_ports}
use Rattle.gen_kit.specs.Shape.{Tied, credit_bits, first_ties, second_ties, host_ties, link_ties, tile_ties}
use Rattle.shape_sound.proofs.Keyed.{rank, rank_of, rank-two, rank-three}
use Rattle.shape_sound.proofs.Rising.{Rises, lower, higher, joined, next, each}

-- ---- lists

abbrev pub port_names : List Tied → List Name
port_names ts = map (λ (t : Tied). t.port.name) ts

-- the nets that ports give out
abbrev pub out_nets : List Tied → List Name
out_nets [] = []
out_nets (t ∷ ts) = if t.port.output then t.net ∷ out_nets ts else out_nets ts

pub map-append : {A B : Type 0} (f : A → B) (xs ys : List A) → map f (xs ++ ys) ≡ map f xs ++ map f ys
map-append f [] ys = refl
map-append f (x ∷ xs) ys = ap (λ z. f x ∷ z) (map-append f xs ys)

pub outs-append : (xs ys : List Tied) → out_nets (xs ++ ys) ≡ out_nets xs ++ out_nets ys
outs-append [] ys = refl
outs-append (x ∷ xs) ys = go x.port.output (outs-append xs ys)
  where
    go : (b : Bool) → out_nets (xs ++ ys) ≡ out_nets xs ++ out_nets ys → (if b then x.net ∷ out_nets (xs ++ ys) else out_nets (xs ++ ys)) ≡ (if b then x.net ∷ out_nets xs else out_nets xs) ++ out_nets ys
    go true e = ap (λ z. x.net ∷ z) e
    go false e = e

pub map-joined : {A B C : Type 0} (f : B → C) (g : A → List B) (xs : List A) → map f (flat_map g xs) ≡ flat_map (λ x. map f (g x)) xs
map-joined f g [] = refl
map-joined f g (x ∷ xs) = map-append f (g x) (flat_map g xs) ∙ ap (λ z. map f (g x) ++ z) (map-joined f g xs)

outs-joined : {A : Type 0} (g : A → List Tied) (xs : List A) → out_nets (flat_map g xs) ≡ flat_map (λ x. out_nets (g x)) xs
outs-joined g [] = refl
outs-joined g (x ∷ xs) = outs-append (g x) (flat_map g xs) ∙ ap (λ z. out_nets (g x) ++ z) (outs-joined g xs)

-- ---- attachments

abbrev pub at_host : Host → ℕ
at_host h = 256 * h.tile + h.domain

-- attachments in order, each of a tile and a domain that a name can have
abbrev pub HostsRise : ℕ → List Host → Type 0
HostsRise low [] = Unit {0}
HostsRise low (h ∷ hs) = (low ≤ at_host h) × (h.tile < 256) × (h.domain < 256) × HostsRise (at_host h + 1) hs

hosts-lower : (low more : ℕ) (hs : List Host) → low ≤ more → HostsRise more hs → HostsRise low hs
hosts-lower low more [] le r = tt
hosts-lower low more (h ∷ hs) le r = ((let first = r.0 in omega (arith, le, first)), r.1, r.2, r.3)

pub hosts-filter : (low : ℕ) (test : Host → Bool) (hs : List Host) → HostsRise low hs → HostsRise low (filter test hs)
hosts-filter low test [] r = tt
hosts-filter low test (h ∷ hs) r = go (test h) (hosts-filter (at_host h + 1) test hs r.3)
  where
    go : (b : Bool) → HostsRise (at_host h + 1) (filter test hs) → HostsRise low (if b then h ∷ filter test hs else filter test hs)
    go true rest = (r.0, r.1, r.2, rest)
    go false rest = hosts-lower low (at_host h + 1) (filter test hs) (let first = r.0 in omega (arith, first)) rest

pub hosts-rise : (low : ℕ) (hs : List Host) → AllByRecursion (λ (h : Host). (h.tile < 256) × (h.domain < 256)) hs → AllPairs IsBefore hs → ((h : Host) (more : List Host) → hs ≡ h ∷ more → low ≤ at_host h) → HostsRise low hs
hosts-rise low [] few pairs first = tt
hosts-rise low (h ∷ hs) few pairs first = (
  first h hs refl,
  few.0.0,
  few.0.1,
  hosts-rise (at_host h + 1) hs few.1 (λ i j d less below. pairs (suc i) (suc j) d (omega (arith, less)) (omega (arith, below))) later,
)
  where
    later : (g : Host) (more : List Host) → hs ≡ g ∷ more → at_host h + 1 ≤ at_host g
    later g more e =
        let some : 0 < length hs = subst (λ xs. 0 < length xs) (sym e) (omega arith) in
        let before : IsBefore h g = subst (λ (xs : List Host). IsBefore h (slice_index_or xs 0 g)) e (pairs 0 1 g (omega arith) (omega (arith, some))) in
        let near : h.domain < 256 = few.0.1 in
        ordered before near
      where
        ordered : IsBefore h g → h.domain < 256 → at_host h + 1 ≤ at_host g
        ordered (inl less) near = omega (arith, less, near)
        ordered (inr same) near = let tile = same.0 in let domain = same.1 in omega (arith, tile, domain)

module _ (h : Host) (t_few : h.tile < 256) (d_few : h.domain < 256) where
  abbrev base : ℕ
  base = 16 * (256 * h.tile + h.domain)

  key : (head : List ℕ) → AllByRecursion (λ b. (b == 95) ≡ false) head → rank (host_name head h) ≡ rank_of head h.tile h.domain 0
  key head plain = rank-two head plain h.tile h.domain (omega (arith, t_few)) (omega (arith, d_few))

  abbrev names : List Name
  names = map (λ (q : Port). q.name) (host_ports h)

  abbrev nets : List Name
  nets = out_nets (host_ties h)

  pub host-names : Rises base (base + 16) (map (λ (q : Port). q.name) (host_ports h))
  host-names =
      next base (base + 0) (base + 16) (host_name (codes "ov") h) (drop 1 names) (key (codes "ov") (refl, (refl, tt))) (omega arith) (
      next (base + 0 + 1) (base + 1) (base + 16) (host_name (codes "oa") h) (drop 2 names) (key (codes "oa") (refl, (refl, tt))) (omega arith) (
      next (base + 1 + 1) (base + 2) (base + 16) (host_name (codes "op") h) (drop 3 names) (key (codes "op") (refl, (refl, tt))) (omega arith) (
      next (base + 2 + 1) (base + 3) (base + 16) (host_name (codes "ol") h) (drop 4 names) (key (codes "ol") (refl, (refl, tt))) (omega arith) (
      next (base + 3 + 1) (base + 4) (base + 16) (host_name (codes "hr") h) (drop 5 names) (key (codes "hr") (refl, (refl, tt))) (omega arith) (
      next (base + 4 + 1) (base + 5) (base + 16) (host_name (codes "rd") h) (drop 6 names) (key (codes "rd") (refl, (refl, tt))) (omega arith) (
      next (base + 5 + 1) (base + 6) (base + 16) (host_name (codes "dr") h) (drop 7 names) (key (codes "dr") (refl, (refl, tt))) (omega arith) (
      next (base + 6 + 1) (base + 7) (base + 16) (host_name (codes "ev") h) (drop 8 names) (key (codes "ev") (refl, (refl, tt))) (omega arith) (
      next (base + 7 + 1) (base + 8) (base + 16) (host_name (codes "eh") h) (drop 9 names) (key (codes "eh") (refl, (refl, tt))) (omega arith) (
      next (base + 8 + 1) (base + 9) (base + 16) (host_name (codes "et") h) (drop 10 names) (key (codes "et") (refl, (refl, tt))) (omega arith) (
      next (base + 9 + 1) (base + 10) (base + 16) (host_name (codes "ep") h) [] (key (codes "ep") (refl, (refl, tt))) (omega arith) (omega arith)))))))))))

  pub host-outs : Rises base (base + 16) (out_nets (host_ties h))
  host-outs =
      next base (base + 5) (base + 16) (host_name (codes "rd") h) (drop 1 nets) (key (codes "rd") (refl, (refl, tt))) (omega arith) (
      next (base + 5 + 1) (base + 6) (base + 16) (host_name (codes "dr") h) (drop 2 nets) (key (codes "dr") (refl, (refl, tt))) (omega arith) (
      next (base + 6 + 1) (base + 7) (base + 16) (host_name (codes "ev") h) (drop 3 nets) (key (codes "ev") (refl, (refl, tt))) (omega arith) (
      next (base + 7 + 1) (base + 8) (base + 16) (host_name (codes "eh") h) (drop 4 nets) (key (codes "eh") (refl, (refl, tt))) (omega arith) (
      next (base + 8 + 1) (base + 9) (base + 16) (host_name (codes "et") h) (drop 5 nets) (key (codes "et") (refl, (refl, tt))) (omega arith) (
      next (base + 9 + 1) (base + 10) (base + 16) (host_name (codes "ep") h) [] (key (codes "ep") (refl, (refl, tt))) (omega arith) (omega arith))))))

-- of several
module _ (part : Host → List Name) (rises : (h : Host) → h.tile < 256 → h.domain < 256 → Rises (16 * at_host h) (16 * at_host h + 16) (part h)) where
  all-rise : (low high : ℕ) (hs : List Host) → HostsRise low hs → ((h : Host) → h.tile < 256 → h.domain < 256 → low ≤ at_host h → at_host h < high) → low ≤ high → Rises (16 * low) (16 * high) (flat_map part hs)
  all-rise low high [] r most le = omega (arith, le)
  all-rise low high (h ∷ hs) r most le =
      let first = r.0 in
      let below = most h r.1 r.2 first in
      joined (16 * low) (16 * (at_host h + 1)) (16 * high) (part h) (flat_map part hs)
      (lower (16 * low) (16 * at_host h) (16 * (at_host h + 1)) (part h) (omega (arith, first)) (higher (16 * at_host h) (16 * at_host h + 16) (16 * (at_host h + 1)) (part h) (omega arith) (rises h r.1 r.2)))
      (all-rise (at_host h + 1) high hs r.3 (λ g t d more. most g t d (omega (arith, first, more))) (omega (arith, below)))

  -- of any tiles
  pub hosts-parts : (hs : List Host) → HostsRise 0 hs → Rises 0 1048576 (flat_map part hs)
  hosts-parts hs r = all-rise 0 65536 hs r (λ h t d le. omega (arith, t, d)) (omega arith)

-- ---- links

two-plain : (a b : ℕ) → (a == 95) ≡ false → (b == 95) ≡ false → AllByRecursion (λ c. (c == 95) ≡ false) (a ∷ b ∷ [])
two-plain a b x y = (x, (y, tt))

module _ (p : Plan) (n q m : ℕ) (n_few : n < 256) (q_few : q < 8) where
  abbrev links : List Tied
  links = link_ties p n q (Some m)

  abbrev front : List Tied
  front = first_ties p n q m (opposite q)

  abbrev more : List Tied
  more = second_ties p n q m (opposite q)

  abbrev slot : ℕ
  slot = 8 * n + q

  key-two : (head : List ℕ) → AllByRecursion (λ c. (c == 95) ≡ false) head → rank (name_with head (n ∷ q ∷ [])) ≡ rank_of head n q 0
  key-two head plain = rank-two head plain n q (omega (arith, n_few)) (omega (arith, q_few))

  key-three : (head : List ℕ) → AllByRecursion (λ c. (c == 95) ≡ false) head → rank (name_with head (n ∷ q ∷ 1 ∷ [])) ≡ rank_of head n q 1
  key-three head plain = rank-three head plain n q 1 (omega (arith, n_few)) (omega (arith, q_few)) (omega arith)

  abbrev port_base : ℕ
  port_base = 2097152 + 8 * slot

  abbrev wire_base : ℕ
  wire_base = 4194304 + 4 * slot

  -- the ports of a leaf
  link-names : Rises port_base (port_base + 8) (port_names links)
  link-names = go (nat_lt 64 (credit_bits p))
    where
      second : Rises (port_base + 4) (port_base + 8) (port_names more)
      second =
          next (port_base + 4) (port_base + 4) (port_base + 8) (name_with (codes "ci") (n ∷ q ∷ 1 ∷ [])) (drop 1 (port_names more)) (key-three (codes "ci") (refl, (refl, tt)) ∙ (let e : port_base + 2 + 2 * 1 ≡ port_base + 4 = omega arith in e)) (omega arith) (
          next (port_base + 4 + 1) (port_base + 5) (port_base + 8) (name_with (codes "co") (n ∷ q ∷ 1 ∷ [])) [] (key-three (codes "co") (refl, (refl, tt)) ∙ (let e : port_base + 3 + 2 * 1 ≡ port_base + 5 = omega arith in e)) (omega arith) (omega arith))

      first : Rises port_base (port_base + 4) (port_names front)
      first =
          next port_base port_base (port_base + 4) (name_with (codes "li") (n ∷ q ∷ [])) (drop 1 (port_names front)) (key-two (codes "li") (refl, (refl, tt))) (omega arith) (
          next (port_base + 1) (port_base + 1) (port_base + 4) (name_with (codes "lo") (n ∷ q ∷ [])) (drop 2 (port_names front)) (key-two (codes "lo") (refl, (refl, tt))) (omega arith) (
          next (port_base + 1 + 1) (port_base + 2) (port_base + 4) (name_with (codes "ci") (n ∷ q ∷ [])) (drop 3 (port_names front)) (key-two (codes "ci") (refl, (refl, tt)) ∙ (let e : port_base + 2 + 2 * 0 ≡ port_base + 2 = omega arith in e)) (omega arith) (
          next (port_base + 2 + 1) (port_base + 3) (port_base + 4) (name_with (codes "co") (n ∷ q ∷ [])) [] (key-two (codes "co") (refl, (refl, tt)) ∙ (let e : port_base + 3 + 2 * 0 ≡ port_base + 3 = omega arith in e)) (omega arith) (omega arith))))

      go : (b : Bool) → Rises port_base (port_base + 8) (port_names (front ++ (if b then more else [])))
      go true = joined port_base (port_base + 4) (port_base + 8) (port_names front) (port_names more) first second
      go false = joined port_base (port_base + 4) (port_base + 8) (port_names front) [] first (omega arith)

  -- the wires that it gives out
  link-outs : Rises wire_base (wire_base + 4) (out_nets links)
  link-outs = go (nat_lt 64 (credit_bits p))
    where
      second : Rises (wire_base + 2) (wire_base + 4) (out_nets more)
      second = next (wire_base + 2) (wire_base + 2) (wire_base + 4) (name_with (codes "cw") (n ∷ q ∷ 1 ∷ [])) [] (key-three (codes "cw") (refl, (refl, tt)) ∙ (let e : wire_base + 1 + 1 ≡ wire_base + 2 = omega arith in e)) (omega arith) (omega arith)

      first : Rises wire_base (wire_base + 2) (out_nets front)
      first =
          next wire_base wire_base (wire_base + 2) (name_with (codes "lw") (n ∷ q ∷ [])) (drop 1 (out_nets front)) (key-two (codes "lw") (refl, (refl, tt))) (omega arith) (
          next (wire_base + 1) (wire_base + 1) (wire_base + 2) (name_with (codes "cw") (n ∷ q ∷ [])) [] (key-two (codes "cw") (refl, (refl, tt)) ∙ (let e : wire_base + 1 + 0 ≡ wire_base + 1 = omega arith in e)) (omega arith) (omega arith))

      go : (b : Bool) → Rises wire_base (wire_base + 4) (out_nets (front ++ (if b then more else [])))
      go true = joined wire_base (wire_base + 2) (wire_base + 4) (out_nets front) (out_nets more) first second
      go false = joined wire_base (wire_base + 2) (wire_base + 4) (out_nets front) [] first (omega arith)

-- ---- a tile

module _ (p : Plan) (n : ℕ) (n_few : n < 256) (few : ports p ≤ 8) (sorted : HostsRise 0 p.hosts) where
  abbrev mine : List Host
  mine = filter (λ (h : Host). h.tile == n) p.hosts

  mine-rise : HostsRise 0 mine
  mine-rise = hosts-filter 0 (λ (h : Host). h.tile == n) p.hosts sorted

  abbrev of_port : ℕ → List Tied
  of_port q = link_ties p n q (neighbour p n q)

  port-names : (q : ℕ) → q < ports p → Rises (2097152 + 8 * (8 * n + q)) (2097152 + 8 * (8 * n + suc q)) (port_names (of_port q))
  port-names q below = go (neighbour p n q)
    where
      go : (x : Option ℕ) → Rises (2097152 + 8 * (8 * n + q)) (2097152 + 8 * (8 * n + suc q)) (port_names (link_ties p n q x))
      go None = omega arith
      go (Some m) =
          higher (2097152 + 8 * (8 * n + q)) (2097152 + 8 * (8 * n + q) + 8) (2097152 + 8 * (8 * n + suc q)) (port_names (link_ties p n q (Some m))) (omega arith)
          (link-names p n q m n_few (omega (arith, below, few)))

  pub port-outs : (q : ℕ) → q < ports p → Rises (4194304 + 4 * (8 * n + q)) (4194304 + 4 * (8 * n + suc q)) (out_nets (of_port q))
  port-outs q below = go (neighbour p n q)
    where
      go : (x : Option ℕ) → Rises (4194304 + 4 * (8 * n + q)) (4194304 + 4 * (8 * n + suc q)) (out_nets (link_ties p n q x))
      go None = omega arith
      go (Some m) =
          higher (4194304 + 4 * (8 * n + q)) (4194304 + 4 * (8 * n + q) + 4) (4194304 + 4 * (8 * n + suc q)) (out_nets (link_ties p n q (Some m))) (omega arith)
          (link-outs p n q m n_few (omega (arith, below, few)))

  -- the ports of the tile's leaf
  pub names-rise : Rises 0 4194304 (port_names (tile_ties p n))
  names-rise =
      subst (Rises 0 4194304) (sym (map-append name (flat_map host_ties mine) (flat_map of_port (tabulate (ports p) (λ q. q)))))
      (joined 0 2097152 4194304 (port_names (flat_map host_ties mine)) (port_names (flat_map of_port (tabulate (ports p) (λ q. q))))
      (higher 0 1048576 2097152 (port_names (flat_map host_ties mine)) (omega arith) (subst (Rises 0 1048576) (sym (map-joined name host_ties mine)) (hosts-parts (λ h. port_names (host_ties h)) host-names mine mine-rise)))
      (subst (Rises 2097152 4194304) (sym (map-joined name of_port (tabulate (ports p) (λ q. q))))
      (lower 2097152 (2097152 + 8 * (8 * n + 0)) 4194304 (flat_map (λ q. port_names (of_port q)) (tabulate (ports p) (λ q. q))) (omega arith)
      (higher (2097152 + 8 * (8 * n + 0)) (2097152 + 8 * (8 * n + ports p)) 4194304 (flat_map (λ q. port_names (of_port q)) (tabulate (ports p) (λ q. q))) (omega (arith, n_few, few))
      (each (λ q. 2097152 + 8 * (8 * n + q)) (ports p) (λ q. port_names (of_port q)) (λ q. q) port-names)))))
    where
      name : Tied → Name
      name t = t.port.name

  -- the nets that it gives out
  pub outs-rise : Rises 0 8388608 (out_nets (tile_ties p n))
  outs-rise =
      subst (Rises 0 8388608) (sym (outs-append (flat_map host_ties mine) (flat_map of_port (tabulate (ports p) (λ q. q)))))
      (joined 0 4194304 8388608 (out_nets (flat_map host_ties mine)) (out_nets (flat_map of_port (tabulate (ports p) (λ q. q))))
      (higher 0 1048576 4194304 (out_nets (flat_map host_ties mine)) (omega arith) (subst (Rises 0 1048576) (sym (outs-joined host_ties mine)) (hosts-parts (λ h. out_nets (host_ties h)) host-outs mine mine-rise)))
      (subst (Rises 4194304 8388608) (sym (outs-joined of_port (tabulate (ports p) (λ q. q))))
      (lower 4194304 (4194304 + 4 * (8 * n + 0)) 8388608 (flat_map (λ q. out_nets (of_port q)) (tabulate (ports p) (λ q. q))) (omega arith)
      (higher (4194304 + 4 * (8 * n + 0)) (4194304 + 4 * (8 * n + ports p)) 8388608 (flat_map (λ q. out_nets (of_port q)) (tabulate (ports p) (λ q. q))) (omega (arith, n_few, few))
      (each (λ q. 4194304 + 4 * (8 * n + q)) (ports p) (λ q. out_nets (of_port q)) (λ q. q) port-outs)))))
