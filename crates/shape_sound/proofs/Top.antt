-- The lines of the top, its leaves, and what each tie of a tile is joined to.
use Rattle.std.proofs.Common.{◌≡◌, ◌≢◌, ℕ, zero, suc, ◌+◌, ◌-◌, ◌*◌, ◌<◌, ◌≤◌, Bool, true, false, List, [], ◌∷◌, ◌++◌, map, length, Option, refl, sym, ◌∙◌, ap, subst, arith, bytes_eq, ◌==◌, cond}
use Rattle.std.specs.Prelude.{Some, None, filter, flat_map, nat_lt, min, if◌then◌else◌, codes}
use Rattle.std.specs.List.{AllByRecursion}
use Rattle.std.proofs.lemmas.List.Elements.{recursion_from_All}
use Rattle.vl_tree.specs.declared.tree.Port.{Port}
use Rattle.vl_tree.specs.declared.tree.TopItem.{TopItem}
use Rattle.vl_tree.specs.declared.tree.TopItem.TheVariants.{Wire}
use Rattle.vl_tree.specs.Values.{Name, Leaf, Design}
use Rattle.vl_model.specs.declared.kind.Kind.TheVariants.{Inner}
use Rattle.vl_model.specs.Lines.{Line, heading, port, joint, Declared, lookup, way_of, is_net, is_driven, leaf_named, port_named}
use Rattle.vl_model.proofs.Settling.{itself}
use Rattle.vl_model.proofs.Passed.{all-map}
use Rattle.vl_model.proofs.Together.{all-join}
use Rattle.noc_model.specs.declared.Host.{Host}
use Rattle.noc_model.specs.Events.{tabulate}
use Rattle.noc_model.specs.Plan.{Plan, tiles, ports}
use Rattle.noc_model.specs.Place.{neighbour, opposite}
use Rattle.noc_model.specs.Sound.{IsSound}
use Rattle.noc_model.proofs.Coords.{positive}
use Rattle.noc_model.proofs.Links.{link-from}
use Rattle.noc_model.proofs.Ports.{link-dim, linked-port}
use Rattle.noc_model.proofs.StateKept.{neighbour-inside}
use Rattle.flit_word.specs.Words.{link_bits}
use Rattle.gen_kit.specs.Ports.{name_with, host_ports, top_ports}
use Rattle.gen_kit.specs.Shape.{Tied, credit_bits, host_ties, link_ties, second_ties, tile_ties, link_wires, tile_wires, tile_instance, Head, head_of, tile_head, all_tiles, HasShape}
use Rattle.gen_kit.specs.Work.{leaf_name}
use Rattle.gen_kit.proofs.Parts.{held-front, held-back}
use Rattle.shape_sound.proofs.Keyed.{rank, rank-one, other}
use Rattle.shape_sound.proofs.Rising.{Rises, lower, higher, joined, each, port-found}
use Rattle.shape_sound.proofs.Lines.{LinesRise, lines-lower, lines-ports, lines-items, item_name, Finds, finds-all}
use Rattle.shape_sound.proofs.Listed.{at-number, to-numbers, of-mapped, to-mapped, of-joined, to-joined, of-filtered}
use Rattle.shape_sound.proofs.Ties.{port_names, out_nets, map-append, map-joined, HostsRise, hosts-rise, host-names, hosts-parts, port-outs, names-rise}

-- ---- leaves

-- a leaf of the tile is found, and its ports are the tile's
pub record LeafAt (p : Plan) (ls : List Leaf) (n : ℕ) : Type 0 where
  pub leaf : Leaf
  pub named : leaf_named ls (leaf_name n) ≡ Some leaf
  pub its_ports : leaf.ports ≡ map (λ (t : Tied). t.port) (tile_ties p n)

leaf-at : (p : Plan) (ls : List Leaf) (k : ℕ) (g : ℕ → ℕ) → map head_of ls ≡ map (tile_head p) (tabulate k g) → ((i j : ℕ) → i < j → j < k → bytes_eq (leaf_name (g j)) (leaf_name (g i)) ≡ false)
    → (i : ℕ) → i < k → LeafAt p ls (g i)
leaf-at p ls zero g e apart i below = absurd (omega arith)
leaf-at p [] (suc k) g e apart i below = absurd (cc e)
leaf-at p (l ∷ ls) (suc k) g e apart zero below =
    let head : head_of l ≡ tile_head p (g 0) = cc e in
    record {
      leaf = l;
      named = ap (λ z. cond (bytes_eq (leaf_name (g 0)) z) (Some l) (leaf_named ls (leaf_name (g 0)))) (ap (λ (h : Head). h.name) head) ∙ ap (λ b. cond b (Some l) (leaf_named ls (leaf_name (g 0)))) (itself (leaf_name (g 0)));
      its_ports = ap (λ (h : Head). h.ports) head;
    }
leaf-at p (l ∷ ls) (suc k) g e apart (suc i) below =
    let head : head_of l ≡ tile_head p (g 0) = cc e in
    let rest : map head_of ls ≡ map (tile_head p) (tabulate k (λ j. g (suc j))) = cc e in
    let later = leaf-at p ls k (λ j. g (suc j)) rest (λ a b less under. apart (suc a) (suc b) (omega (arith, less)) (omega (arith, under))) i (omega (arith, below)) in
    record {
      leaf = later.leaf;
      named =
          ap (λ z. cond (bytes_eq (leaf_name (g (suc i))) z) (Some l) (leaf_named ls (leaf_name (g (suc i))))) (ap (λ (h : Head). h.name) head)
          ∙ ap (λ b. cond b (Some l) (leaf_named ls (leaf_name (g (suc i))))) (apart 0 (suc i) (omega arith) below) ∙ later.named;
      its_ports = later.its_ports;
    }

no-leaf : (p : Plan) (ls : List Leaf) (k : ℕ) (g : ℕ → ℕ) → map head_of ls ≡ map (tile_head p) (tabulate k g) → leaf_named ls (codes "noc") ≡ None
no-leaf p [] zero g e = refl
no-leaf p (l ∷ ls) zero g e = absurd (cc e)
no-leaf p [] (suc k) g e = refl
no-leaf p (l ∷ ls) (suc k) g e =
    let head : head_of l ≡ tile_head p (g 0) = cc e in
    let rest : map head_of ls ≡ map (tile_head p) (tabulate k (λ j. g (suc j))) = cc e in
    ap (λ z. cond (bytes_eq (codes "noc") z) (Some l) (leaf_named ls (codes "noc"))) (ap (λ (h : Head). h.name) head) ∙ no-leaf p ls k (λ j. g (suc j)) rest

-- ---- what a tie is joined to

-- the net is declared in these lines, as wide as the port, and may be driven where the port gives out
pub record TieFits (lines : List Line) (t : Tied) : Type 0 where
  pub found : Declared
  pub is : lookup lines t.net ≡ Some found
  pub high : found.high ≡ t.port.high
  pub net_kind : is_net found.kind ≡ true
  pub driven : t.port.output ≡ true → is_driven found.kind ≡ true

way-net : (b : Bool) → is_net (way_of b) ≡ true
way-net true = refl
way-net false = refl

inner : ℕ → Name → Declared
inner width n = record { name = n; kind = Inner; high = width - 1; last = 0 }

-- the wires of the link that leaves tile n by port q
pub record WiresFound (p : Plan) (lines : List Line) (n q : ℕ) : Type 0 where
  pub words : lookup lines (name_with (codes "lw") (n ∷ q ∷ [])) ≡ Some (record { name = name_with (codes "lw") (n ∷ q ∷ []); kind = Inner; high = link_bits p - 1; last = 0 })
  pub credits : lookup lines (name_with (codes "cw") (n ∷ q ∷ [])) ≡ Some (record { name = name_with (codes "cw") (n ∷ q ∷ []); kind = Inner; high = min (credit_bits p) 64 - 1; last = 0 })
  pub more : nat_lt 64 (credit_bits p) ≡ true → lookup lines (name_with (codes "cw") (n ∷ q ∷ 1 ∷ [])) ≡ Some (record { name = name_with (codes "cw") (n ∷ q ∷ 1 ∷ []); kind = Inner; high = credit_bits p - 64 - 1; last = 0 })

wires-found : (p : Plan) (lines : List Line) (n q m : ℕ) → AllByRecursion (λ i. Finds lines (joint i)) (link_wires p n q (Some m)) → WiresFound p lines n q
wires-found p lines n q m all = record {
  words = all.0;
  credits = all.1.0;
  more = λ many. go (nat_lt 64 (credit_bits p)) many all.1.1;
}
  where
    go : (b : Bool) → b ≡ true → AllByRecursion (λ i. Finds lines (joint i)) (if b then Wire (credit_bits p - 64 - 1) (name_with (codes "cw") (n ∷ q ∷ 1 ∷ [])) ∷ [] else [])
        → lookup lines (name_with (codes "cw") (n ∷ q ∷ 1 ∷ [])) ≡ Some (record { name = name_with (codes "cw") (n ∷ q ∷ 1 ∷ []); kind = Inner; high = credit_bits p - 64 - 1; last = 0 })
    go true e found = found.0
    go false e found = absurd (cc e)

link-fits : (p : Plan) (lines : List Line) (n q m : ℕ) → WiresFound p lines n q → WiresFound p lines m (opposite q) → AllByRecursion (TieFits lines) (link_ties p n q (Some m))
link-fits p lines n q m out into = (
  record { found = _; is = into.words; high = refl; net_kind = refl; driven = λ e. absurd (cc e) },
  (
    record { found = _; is = out.words; high = refl; net_kind = refl; driven = λ e. refl },
    (
      record { found = _; is = into.credits; high = refl; net_kind = refl; driven = λ e. absurd (cc e) },
      (record { found = _; is = out.credits; high = refl; net_kind = refl; driven = λ e. refl }, go (nat_lt 64 (credit_bits p)) refl),
    ),
  ),
)
  where
    go : (b : Bool) → nat_lt 64 (credit_bits p) ≡ b → AllByRecursion (TieFits lines) (if b then second_ties p n q m (opposite q) else [])
    go true many = (record { found = _; is = into.more many; high = refl; net_kind = refl; driven = λ e. absurd (cc e) }, (record { found = _; is = out.more many; high = refl; net_kind = refl; driven = λ e. refl }, tt))
    go false few = tt

-- the wires have the names that the tile's links give out
wire-names : (p : Plan) (n q : ℕ) (x : Option ℕ) → map item_name (link_wires p n q x) ≡ out_nets (link_ties p n q x)
wire-names p n q None = refl
wire-names p n q (Some m) = go (nat_lt 64 (credit_bits p))
  where
    go : (b : Bool) → name_with (codes "lw") (n ∷ q ∷ []) ∷ name_with (codes "cw") (n ∷ q ∷ []) ∷ map item_name (if b then Wire (credit_bits p - 64 - 1) (name_with (codes "cw") (n ∷ q ∷ 1 ∷ [])) ∷ [] else [])
        ≡ name_with (codes "lw") (n ∷ q ∷ []) ∷ name_with (codes "cw") (n ∷ q ∷ []) ∷ out_nets (if b then second_ties p n q m (opposite q) else [])
    go true = refl
    go false = refl

map-single : {A B C : Type 0} (f : B → C) (g : A → B) (xs : List A) → map f (map g xs) ≡ flat_map (λ x. f (g x) ∷ []) xs
map-single f g [] = refl
map-single f g (x ∷ xs) = ap (λ z. f (g x) ∷ z) (map-single f g xs)

pub port-below : (p : Plan) (n q m : ℕ) → neighbour p n q ≡ Some m → q < ports p
port-below p n q m e =
    let some = link-dim p n q (rw e refl) in
    let away : q ≢ 0 = linked-port p n q m e in
    omega (arith, some, away)

module _ (p : Plan) (sound : IsSound p) where
  pub few-tiles : (n : ℕ) → n < tiles p → n < 256
  few-tiles n below = let most = sound.tile_count in omega (arith, below, most)

  pub few-ports : ports p ≤ 8
  few-ports = let most = sound.dims.1 in omega (arith, most)

  pub few-hosts : AllByRecursion (λ (h : Host). (h.tile < tiles p) × (h.domain < length p.domains)) p.hosts
  few-hosts = recursion_from_All (λ (h : Host). (h.tile < tiles p) × (h.domain < length p.domains)) p.hosts sound.hosts

  pub sorted : HostsRise 0 p.hosts
  sorted =
      hosts-rise 0 p.hosts
      (all-map (λ (h : Host). (h.tile < tiles p) × (h.domain < length p.domains)) (λ (h : Host). (h.tile < 256) × (h.domain < 256))
      (λ h a. (few-tiles h.tile a.0, (let most = sound.domains.1 in let below = a.1 in omega (arith, most, below)))) p.hosts few-hosts)
      sound.hosts_in_order (λ h more e. omega arith)

  -- ---- the lines of the top

  abbrev pub wires : List TopItem
  wires = flat_map (tile_wires p) (all_tiles p)

  abbrev pub instances : List TopItem
  instances = map (tile_instance p) (all_tiles p)

  ports-rise : Rises 0 1048576 (map (λ (q : Port). q.name) (top_ports p))
  ports-rise = subst (Rises 0 1048576) (sym (map-joined (λ (q : Port). q.name) host_ports p.hosts)) (hosts-parts (λ h. map (λ (q : Port). q.name) (host_ports h)) host-names p.hosts sorted)

  tile-wires-rise : (n : ℕ) → n < tiles p → Rises (4194304 + 4 * (8 * n)) (4194304 + 4 * (8 * suc n)) (map item_name (tile_wires p n))
  tile-wires-rise n below =
      subst (Rises (4194304 + 4 * (8 * n)) (4194304 + 4 * (8 * suc n))) (sym (map-joined item_name (λ q. link_wires p n q (neighbour p n q)) (tabulate (ports p) (λ q. q))))
      (lower (4194304 + 4 * (8 * n)) (4194304 + 4 * (8 * n + 0)) (4194304 + 4 * (8 * suc n)) names (omega arith)
      (higher (4194304 + 4 * (8 * n + 0)) (4194304 + 4 * (8 * n + ports p)) (4194304 + 4 * (8 * suc n)) names (let few = few-ports in omega (arith, few))
      (each (λ q. 4194304 + 4 * (8 * n + q)) (ports p) (λ q. map item_name (link_wires p n q (neighbour p n q))) (λ q. q)
      (λ q less. subst (Rises (4194304 + 4 * (8 * n + q)) (4194304 + 4 * (8 * n + suc q))) (sym (wire-names p n q (neighbour p n q))) (port-outs p n (few-tiles n below) few-ports sorted q less)))))
    where
      names : List Name
      names = flat_map (λ q. map item_name (link_wires p n q (neighbour p n q))) (tabulate (ports p) (λ q. q))

  wires-rise : Rises 4194304 8388608 (map item_name wires)
  wires-rise =
      subst (Rises 4194304 8388608) (sym (map-joined item_name (tile_wires p) (all_tiles p)))
      (lower 4194304 (4194304 + 4 * (8 * 0)) 8388608 names (omega arith)
      (higher (4194304 + 4 * (8 * 0)) (4194304 + 4 * (8 * tiles p)) 8388608 names (let most = sound.tile_count in omega (arith, most))
      (each (λ n. 4194304 + 4 * (8 * n)) (tiles p) (λ n. map item_name (tile_wires p n)) (λ n. n) tile-wires-rise)))
    where
      names : List Name
      names = flat_map (λ n. map item_name (tile_wires p n)) (all_tiles p)

  instances-rise : Rises 8388608 (8388608 + tiles p) (map item_name instances)
  instances-rise =
      subst (Rises 8388608 (8388608 + tiles p)) (sym (map-single item_name (tile_instance p) (all_tiles p)))
      (lower 8388608 (8388608 + 0) (8388608 + tiles p) (flat_map (λ n. item_name (tile_instance p n) ∷ []) (all_tiles p)) (omega arith)
      (each (λ n. 8388608 + n) (tiles p) (λ n. item_name (tile_instance p n) ∷ []) (λ n. n) one))
    where
      one : (n : ℕ) → n < tiles p → Rises (8388608 + n) (8388608 + suc n) (item_name (tile_instance p n) ∷ [])
      one n below =
          let at : rank (name_with (codes "tile") (n ∷ [])) ≡ 8388608 + n = rank-one (codes "tile") (refl, (refl, (refl, (refl, tt)))) n (let few = few-tiles n below in omega (arith, few)) in
          (omega (arith, at), omega (arith, at))

  -- all lines but the heading
  abbrev pub body : List Line
  body = map port (top_ports p) ++ map joint (wires ++ instances)

  pub body-rises : LinesRise 0 (8388608 + tiles p) body
  body-rises =
      lines-ports 0 1048576 (8388608 + tiles p) (top_ports p) (map joint (wires ++ instances)) ports-rise
      (lines-lower 1048576 4194304 (8388608 + tiles p) (map joint (wires ++ instances)) (omega arith)
      (lines-items 4194304 (8388608 + tiles p) (wires ++ instances)
      (subst (Rises 4194304 (8388608 + tiles p)) (sym (map-append item_name wires instances)) (joined 4194304 8388608 (8388608 + tiles p) (map item_name wires) (map item_name instances) wires-rise instances-rise))))

  -- the lines before the instances
  abbrev pub base : List Line
  base = heading (codes "noc") ∷ (map port (top_ports p) ++ map joint wires)

  found : AllByRecursion (Finds base) (map port (top_ports p) ++ map joint wires)
  found =
      (finds-all base 0 8388608 (
        tt,
        lines-ports 0 1048576 8388608 (top_ports p) (map joint wires) ports-rise
            (lines-lower 1048576 4194304 8388608 (map joint wires) (omega arith) (lines-items 4194304 8388608 wires wires-rise)),
      )).1

  pub ports-found : AllByRecursion (λ (h : Host). AllByRecursion (λ (q : Port). Finds base (port q)) (host_ports h)) p.hosts
  ports-found = of-joined (λ (q : Port). Finds base (port q)) host_ports p.hosts (of-mapped (Finds base) port (top_ports p) (held-front (Finds base) (map port (top_ports p)) (map joint wires) found))

  link-found : (n q m : ℕ) → n < tiles p → neighbour p n q ≡ Some m → WiresFound p base n q
  link-found n q m below e =
      wires-found p base n q m
      (subst (λ x. AllByRecursion (λ i. Finds base (joint i)) (link_wires p n q x)) e
      (at-number (λ k. AllByRecursion (λ i. Finds base (joint i)) (link_wires p n k (neighbour p n k))) (ports p) (λ k. k)
      (of-joined (λ i. Finds base (joint i)) (λ k. link_wires p n k (neighbour p n k)) (tabulate (ports p) (λ k. k))
      (at-number (λ k. AllByRecursion (λ i. Finds base (joint i)) (tile_wires p k)) (tiles p) (λ k. k)
      (of-joined (λ i. Finds base (joint i)) (tile_wires p) (all_tiles p)
      (of-mapped (Finds base) joint wires (held-back (Finds base) (map port (top_ports p)) (map joint wires) found))) n below)) q (port-below p n q m e)))

  -- ---- the ties of a tile

  host-fits : (h : Host) → AllByRecursion (λ (q : Port). Finds base (port q)) (host_ports h) → AllByRecursion (TieFits base) (host_ties h)
  host-fits h all =
      to-mapped (TieFits base) (λ (q : Port). record { port = q; net = q.name }) (host_ports h)
      (all-map (λ (q : Port). Finds base (port q)) (λ (q : Port). TieFits base (record { port = q; net = q.name }))
      (λ q e. record { found = record { name = q.name; kind = way_of q.output; high = q.high; last = 0 }; is = e; high = refl; net_kind = way-net q.output; driven = λ out. ap (λ b. is_driven (way_of b)) out }) (host_ports h) all)

  pub ties-fit : (n : ℕ) → n < tiles p → AllByRecursion (TieFits base) (tile_ties p n)
  ties-fit n below =
      all-join (TieFits base) (flat_map host_ties (filter (λ (h : Host). h.tile == n) p.hosts)) (flat_map (λ q. link_ties p n q (neighbour p n q)) (tabulate (ports p) (λ q. q)))
      (to-joined (TieFits base) host_ties (filter (λ (h : Host). h.tile == n) p.hosts)
      (of-filtered (λ (h : Host). AllByRecursion (λ (q : Port). Finds base (port q)) (host_ports h)) (λ (h : Host). AllByRecursion (TieFits base) (host_ties h)) (λ (h : Host). h.tile == n) (λ h mine all. host-fits h all) p.hosts ports-found))
      (to-joined (TieFits base) (λ q. link_ties p n q (neighbour p n q)) (tabulate (ports p) (λ q. q))
      (to-numbers (λ q. AllByRecursion (TieFits base) (link_ties p n q (neighbour p n q))) (ports p) (λ q. q) (λ q less. go q (neighbour p n q) refl)))
    where
      go : (q : ℕ) (x : Option ℕ) → neighbour p n q ≡ x → AllByRecursion (TieFits base) (link_ties p n q x)
      go q None e = tt
      go q (Some m) e =
          let link = link-from p n q m (positive p.dims sound.sides) below e in
          link-fits p base n q m (link-found n q m below e) (link-found m (opposite q) n (neighbour-inside p n q m (positive p.dims sound.sides) e) link.back)

  -- each port is found by its name
  pub map-twice : (ts : List Tied) → map (λ (q : Port). q.name) (map (λ (t : Tied). t.port) ts) ≡ port_names ts
  map-twice [] = refl
  map-twice (t ∷ ts) = ap (λ z. t.port.name ∷ z) (map-twice ts)

  pub ports-named : (n : ℕ) → n < tiles p → AllByRecursion (λ (t : Tied). port_named (map (λ (s : Tied). s.port) (tile_ties p n)) t.port.name ≡ Some t.port) (tile_ties p n)
  ports-named n below =
      of-mapped (λ (q : Port). port_named (map (λ (s : Tied). s.port) (tile_ties p n)) q.name ≡ Some q) (λ (t : Tied). t.port) (tile_ties p n)
      (port-found 0 4194304 (map (λ (s : Tied). s.port) (tile_ties p n)) (subst (Rises 0 4194304) (sym (map-twice (tile_ties p n))) (names-rise p n (few-tiles n below) few-ports sorted)))

  -- ---- leaves of the shape

  pub leaf-apart : (i j : ℕ) → i < j → j < tiles p → bytes_eq (leaf_name j) (leaf_name i) ≡ false
  leaf-apart i j less below =
      let few = few-tiles j below in
      let at : (n : ℕ) → n < 256 → rank (leaf_name n) ≡ 16 * (256 * n + 0) + 11 = λ n small. rank-one (codes "router") (refl, (refl, (refl, (refl, (refl, (refl, tt)))))) n (omega (arith, small)) in
      let one = at i (omega (arith, less, few)) in
      let two = at j few in
      other (leaf_name j) (leaf_name i) (λ same. omega (arith, one, two, same, less))

  module _ (d : Design) (shape : HasShape p d) where
    pub its-leaf : (n : ℕ) → n < tiles p → LeafAt p d.leaves n
    its-leaf n below = leaf-at p d.leaves (tiles p) (λ k. k) shape.leaves leaf-apart n below

    pub no-noc : leaf_named d.leaves (codes "noc") ≡ None
    no-noc = no-leaf p d.leaves (tiles p) (λ k. k) shape.leaves
