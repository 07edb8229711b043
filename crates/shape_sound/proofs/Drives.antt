-- Each wire and each output port of the top is driven by one join.
use Rattle.std.proofs.Common.{◌≡◌, ◌≢◌, ℕ, zero, suc, ◌+◌, ◌-◌, ◌<◌, length, Bool, true, false, ◌&&◌, List, [], ◌∷◌, ◌++◌, map, Option, refl, sym, ◌∙◌, ap, subst, arith, bytes_eq, ◌==◌, cond}
use Rattle.std.specs.Prelude.{Some, None, filter, flat_map, count_by, nat_lt, if◌then◌else◌, codes}
use Rattle.std.specs.List.{AllByRecursion}
use Rattle.std.proofs.lemmas.Bool.{eqb-true, false≢true}
use Rattle.std.proofs.lemmas.Bool.Decides.{nat_tests}
use Rattle.std.proofs.lemmas.List.Sums.{sum_by-cons}
use Rattle.vl_tree.specs.declared.tree.Port.{Port}
use Rattle.vl_tree.specs.declared.tree.Join.{Join}
use Rattle.vl_tree.specs.declared.tree.TopItem.{TopItem}
use Rattle.vl_tree.specs.declared.tree.TopItem.TheVariants.{Wire, Instance}
use Rattle.vl_tree.specs.Values.{Name, Leaf, Design}
use Rattle.vl_model.specs.Lines.{Line, heading, port, joint, port_named}
use Rattle.vl_model.specs.Rules.{is_output_port, join_drives, instance_drives, drives, drivers}
use Rattle.vl_model.proofs.Ordered.{drivers-append}
use Rattle.vl_model.proofs.Passed.{all-map}
use Rattle.vl_model.proofs.One.{all-both}
use Rattle.vl_model.proofs.Settling.{one-name}
use Rattle.vl_model.proofs.Together.{all-join}
use Rattle.noc_model.specs.declared.Host.{Host}
use Rattle.noc_model.specs.Events.{tabulate}
use Rattle.noc_model.specs.Plan.{Plan, tiles, ports}
use Rattle.noc_model.specs.Place.{neighbour, opposite}
use Rattle.noc_model.specs.Sound.{IsSound}
use Rattle.gen_kit.specs.Ports.{name_with, host_name, host_ports, top_ports}
use Rattle.gen_kit.specs.Shape.{Tied, credit_bits, second_ties, host_ties, link_ties, tile_ties, link_wires, tile_wires, tile_instance, all_tiles, HasShape}
use Rattle.gen_kit.proofs.Parts.{held-front, held-back}
use Rattle.shape_sound.proofs.Keyed.{owner, owner-is}
use Rattle.shape_sound.proofs.Rising.{count, count-one}
use Rattle.shape_sound.proofs.Lines.{item_name}
use Rattle.shape_sound.proofs.Listed.{at-number, to-numbers, of-mapped, of-joined, to-joined, of-filtered}
use Rattle.shape_sound.proofs.Ties.{out_nets, map-append, outs-rise}
use Rattle.shape_sound.proofs.Top.{few-tiles, few-ports, few-hosts, sorted, wires, instances, body, ports-named, its-leaf}

abbrev pub join_of : Tied → Join
join_of t = record { port = t.port.name; net = t.net }

-- ---- one instance

-- a port is found in these by its name
abbrev IsFoundIn : List Port → Tied → Type 0
IsFoundIn ps t = port_named ps t.port.name ≡ Some t.port

counted : {A : Type 0} (test : A → Bool) (x : A) (xs : List A) → count_by test (x ∷ xs) ≡ cond (test x) 1 0 + count_by test xs
counted test x xs = sum_by-cons (λ y. cond (test y) 1 0) x xs

-- the joins that drive a net are those of output ports
joins-drive : (l : Leaf) (x : Name) (ts : List Tied) → AllByRecursion (IsFoundIn l.ports) ts → count_by (join_drives l x) (map join_of ts) ≡ count x (out_nets ts)
joins-drive l x [] all = refl
joins-drive l x (t ∷ ts) all =
    counted (join_drives l x) (join_of t) (map join_of ts)
    ∙ ap (λ o. cond (bytes_eq x t.net && is_output_port o) 1 0 + count_by (join_drives l x) (map join_of ts)) all.0
    ∙ go (bytes_eq x t.net) refl t.port.output (joins-drive l x ts all.1)
  where
    go : (b : Bool) → bytes_eq x t.net ≡ b → (out : Bool) → count_by (join_drives l x) (map join_of ts) ≡ count x (out_nets ts)
        → cond (b && out) 1 0 + count_by (join_drives l x) (map join_of ts) ≡ count x (if out then t.net ∷ out_nets ts else out_nets ts)
    go true same true rest = rw (same, rest) refl
    go true same false rest = rw rest (omega arith)
    go false other true rest = rw (other, rest) refl
    go false other false rest = rw rest (omega arith)

-- ---- all instances

module _ (p : Plan) (d : Design) (sound : IsSound p) (shape : HasShape p d) where
  instance-drives : (n : ℕ) (x : Name) → n < tiles p → drives d.leaves x (joint (tile_instance p n)) ≡ count x (out_nets (tile_ties p n))
  instance-drives n x below =
      let at = its-leaf p sound d shape n below in
      ap (instance_drives x (map join_of (tile_ties p n))) at.named
      ∙ joins-drive at.leaf x (tile_ties p n) (subst (λ ps. AllByRecursion (IsFoundIn ps) (tile_ties p n)) (sym at.its_ports) (ports-named p sound n below))

  abbrev Drivers : List ℕ → Name → ℕ
  Drivers ns x = drivers d.leaves (map joint (map (tile_instance p) ns)) x

  sum-none : (k : ℕ) (g : ℕ → ℕ) (x : Name) → ((i : ℕ) → i < k → drives d.leaves x (joint (tile_instance p (g i))) ≡ 0) → Drivers (tabulate k g) x ≡ 0
  sum-none zero g x none = refl
  sum-none (suc k) g x none = rw (none 0 (omega arith), sum-none k (λ i. g (suc i)) x (λ i below. none (suc i) (omega (arith, below)))) refl

  sum-one : (k : ℕ) (g : ℕ → ℕ) (x : Name) (j : ℕ) → j < k → drives d.leaves x (joint (tile_instance p (g j))) ≡ 1 → ((i : ℕ) → i < k → i ≢ j → drives d.leaves x (joint (tile_instance p (g i))) ≡ 0)
      → Drivers (tabulate k g) x ≡ 1
  sum-one zero g x j below one none = absurd (omega (arith, below))
  sum-one (suc k) g x zero below one none = rw (one, sum-none k (λ i. g (suc i)) x (λ i less. none (suc i) (omega (arith, less)) (omega arith))) refl
  sum-one (suc k) g x (suc j) below one none =
      rw (none 0 (omega arith) (omega arith), sum-one k (λ i. g (suc i)) x j (omega (arith, below)) one (λ i less apart. none (suc i) (omega (arith, less)) (omega (arith, apart)))) refl

  -- ---- the nets of a tile are its own

  abbrev OwnedBy : ℕ → Name → Type 0
  OwnedBy n x = owner x ≡ n

  host-owned : (h : Host) → h.tile < 256 → AllByRecursion (OwnedBy h.tile) (out_nets (host_ties h))
  host-owned h few = (own (codes "rd") (refl, (refl, tt)), (own (codes "dr") (refl, (refl, tt)), (own (codes "ev") (refl, (refl, tt)), (own (codes "eh") (refl, (refl, tt)), (own (codes "et") (refl, (refl, tt)), (own (codes "ep") (refl, (refl, tt)), tt))))))
    where
      own : (head : List ℕ) → AllByRecursion (λ b. (b == 95) ≡ false) head → owner (host_name head h) ≡ h.tile
      own head plain = owner-is head plain h.tile (h.domain ∷ []) (omega (arith, few))

  link-owned : (n q : ℕ) (x : Option ℕ) → n < 256 → AllByRecursion (OwnedBy n) (out_nets (link_ties p n q x))
  link-owned n q None few = tt
  link-owned n q (Some m) few = (own (codes "lw") (q ∷ []) (refl, (refl, tt)), (own (codes "cw") (q ∷ []) (refl, (refl, tt)), go (nat_lt 64 (credit_bits p))))
    where
      own : (head : List ℕ) (more : List ℕ) → AllByRecursion (λ b. (b == 95) ≡ false) head → owner (name_with head (n ∷ more)) ≡ n
      own head more plain = owner-is head plain n more (omega (arith, few))

      go : (b : Bool) → AllByRecursion (OwnedBy n) (out_nets (if b then second_ties p n q m (opposite q) else []))
      go true = (own (codes "cw") (q ∷ 1 ∷ []) (refl, (refl, tt)), tt)
      go false = tt

  -- a property of the nets that ties give out
  abbrev Gives : (Name → Type 0) → Tied → Type 0
  Gives P t = t.port.output ≡ true → P t.net

  outs-of : (P : Name → Type 0) (ts : List Tied) → AllByRecursion (Gives P) ts → AllByRecursion P (out_nets ts)
  outs-of P [] all = tt
  outs-of P (t ∷ ts) all = go t.port.output refl (outs-of P ts all.1)
    where
      go : (b : Bool) → t.port.output ≡ b → AllByRecursion P (out_nets ts) → AllByRecursion P (if b then t.net ∷ out_nets ts else out_nets ts)
      go true out rest = (all.0 out, rest)
      go false off rest = rest

  ties-of : (P : Name → Type 0) (ts : List Tied) → AllByRecursion P (out_nets ts) → AllByRecursion (Gives P) ts
  ties-of P [] all = tt
  ties-of P (t ∷ ts) all = go t.port.output refl all (λ rest. ties-of P ts rest)
    where
      go : (b : Bool) → t.port.output ≡ b → AllByRecursion P (if b then t.net ∷ out_nets ts else out_nets ts) → (AllByRecursion P (out_nets ts) → AllByRecursion (Gives P) ts) → Gives P t × AllByRecursion (Gives P) ts
      go true out each rest = ((λ e. each.0), rest each.1)
      go false off each rest = ((λ e. absurd (false≢true (sym off ∙ e))), rest each)

  tile-owned : (n : ℕ) → n < tiles p → AllByRecursion (OwnedBy n) (out_nets (tile_ties p n))
  tile-owned n below =
      outs-of (OwnedBy n) (tile_ties p n)
      (all-join (Gives (OwnedBy n)) (flat_map host_ties (filter (λ (h : Host). h.tile == n) p.hosts)) (flat_map (λ q. link_ties p n q (neighbour p n q)) (tabulate (ports p) (λ q. q)))
      (to-joined (Gives (OwnedBy n)) host_ties (filter (λ (h : Host). h.tile == n) p.hosts)
      (of-filtered (λ (h : Host). (h.tile < tiles p) × (h.domain < length p.domains)) (λ (h : Host). AllByRecursion (Gives (OwnedBy n)) (host_ties h)) (λ (h : Host). h.tile == n)
      (λ h mine inside. (let same = eqb-true h.tile n mine in
      subst (λ k. AllByRecursion (Gives (OwnedBy k)) (host_ties h)) same (ties-of (OwnedBy h.tile) (host_ties h) (host-owned h (few-tiles p sound h.tile inside.0))))) p.hosts (few-hosts p sound)))
      (to-joined (Gives (OwnedBy n)) (λ q. link_ties p n q (neighbour p n q)) (tabulate (ports p) (λ q. q))
      (to-numbers (λ q. AllByRecursion (Gives (OwnedBy n)) (link_ties p n q (neighbour p n q))) (ports p) (λ q. q)
      (λ q less. ties-of (OwnedBy n) (link_ties p n q (neighbour p n q)) (link-owned n q (neighbour p n q) (few-tiles p sound n below))))))

  count-other : (n : ℕ) (x : Name) (ns : List Name) → AllByRecursion (OwnedBy n) ns → owner x ≢ n → count x ns ≡ 0
  count-other n x [] all apart = refl
  count-other n x (y ∷ ns) all apart = rw (differs, count-other n x ns all.1 apart) refl
    where
      differs : bytes_eq x y ≡ false
      differs = go (bytes_eq x y) refl
        where
          go : (b : Bool) → bytes_eq x y ≡ b → b ≡ false
          go false e = refl
          go true e = absurd (apart (ap owner (one-name x y e) ∙ all.0))

  -- ---- in the whole top

  no-port-drives : (ps : List Port) (x : Name) → drivers d.leaves (map port ps) x ≡ 0
  no-port-drives [] x = refl
  no-port-drives (q ∷ ps) x = rw (no-port-drives ps x) refl

  abbrev IsWire : TopItem → Type 0
  IsWire (Wire h n) = Unit {0}
  IsWire (Instance l n joins) = ⊥

  no-wire-drives : (is : List TopItem) (x : Name) → AllByRecursion IsWire is → drivers d.leaves (map joint is) x ≡ 0
  no-wire-drives [] x all = refl
  no-wire-drives (Wire h n ∷ is) x all = rw (no-wire-drives is x all.1) refl
  no-wire-drives (Instance l n joins ∷ is) x all = absurd all.0

  are-wires : AllByRecursion IsWire (wires p sound)
  are-wires =
      to-joined IsWire (tile_wires p) (all_tiles p)
      (to-numbers (λ n. AllByRecursion IsWire (tile_wires p n)) (tiles p) (λ n. n)
      (λ n below. to-joined IsWire (λ q. link_wires p n q (neighbour p n q)) (tabulate (ports p) (λ q. q))
      (to-numbers (λ q. AllByRecursion IsWire (link_wires p n q (neighbour p n q))) (ports p) (λ q. q) (λ q less. go n q (neighbour p n q)))))
    where
      last : (n q : ℕ) (b : Bool) → AllByRecursion IsWire (if b then Wire (credit_bits p - 64 - 1) (name_with (codes "cw") (n ∷ q ∷ 1 ∷ [])) ∷ [] else [])
      last n q true = (tt, tt)
      last n q false = tt

      go : (n q : ℕ) (x : Option ℕ) → AllByRecursion IsWire (link_wires p n q x)
      go n q None = tt
      go n q (Some m) = (tt, (tt, last n q (nat_lt 64 (credit_bits p))))

  abbrev lines : List Line
  lines = heading (codes "noc") ∷ body p sound

  by-instances : (x : Name) → drivers d.leaves lines x ≡ Drivers (all_tiles p) x
  by-instances x =
      let one = drivers-append d.leaves (map port (top_ports p)) (map joint (wires p sound ++ instances p sound)) x in
      let two = ap (λ ys. drivers d.leaves ys x) (map-append joint (wires p sound) (instances p sound)) ∙ drivers-append d.leaves (map joint (wires p sound)) (map joint (instances p sound)) x in
      let none = no-port-drives (top_ports p) x in
      let nothing = no-wire-drives (wires p sound) x are-wires in
      let zero_first : 0 + drivers d.leaves (body p sound) x ≡ drivers d.leaves (body p sound) x = omega arith in
      zero_first ∙ one ∙ ap (λ k. k + drivers d.leaves (map joint (wires p sound ++ instances p sound)) x) none ∙ (let z : 0 + drivers d.leaves (map joint (wires p sound ++ instances p sound)) x ≡ drivers d.leaves (map joint (wires p sound ++ instances p sound)) x = omega arith in z)
      ∙ two ∙ ap (λ k. k + Drivers (all_tiles p) x) nothing ∙ (let z : 0 + Drivers (all_tiles p) x ≡ Drivers (all_tiles p) x = omega arith in z)

  -- it has one driver
  abbrev pub IsDriven : Name → Type 0
  IsDriven x = drivers d.leaves lines x ≡ 1

  ties-driven : (n : ℕ) → n < tiles p → AllByRecursion (Gives IsDriven) (tile_ties p n)
  ties-driven n below =
      ties-of IsDriven (tile_ties p n)
      (all-both (OwnedBy n) (λ x. count x (out_nets (tile_ties p n)) ≡ 1) IsDriven
      (λ x own one. by-instances x ∙ sum-one (tiles p) (λ k. k) x n below (instance-drives n x below ∙ one)
      (λ i less apart. instance-drives i x less ∙ count-other i x (out_nets (tile_ties p i)) (tile-owned i less) (λ same. apart (sym same ∙ own))))
      (out_nets (tile_ties p n)) (tile-owned n below) (count-one 0 8388608 (out_nets (tile_ties p n)) (outs-rise p n (few-tiles p sound n below) (few-ports p sound) (sorted p sound))))

  -- ---- ports and wires

  each-host : (hs : List Host) → AllByRecursion (λ (h : Host). (h.tile < tiles p) × (h.domain < length p.domains)) hs
      → ((n : ℕ) → n < tiles p → AllByRecursion (Gives IsDriven) (flat_map host_ties (filter (λ (h : Host). h.tile == n) hs))) → AllByRecursion (λ (h : Host). AllByRecursion (Gives IsDriven) (host_ties h)) hs
  each-host [] inside all = tt
  each-host (h ∷ hs) inside all = (
    here (h.tile == h.tile) self (all h.tile inside.0.0),
    each-host hs inside.1 (λ n below. later n (h.tile == n) (all n below)),
  )
    where
      self : (h.tile == h.tile) ≡ true
      self = grind (arith, nat_tests)

      here : (b : Bool) → b ≡ true → AllByRecursion (Gives IsDriven) (flat_map host_ties (if b then h ∷ filter (λ (g : Host). g.tile == h.tile) hs else filter (λ (g : Host). g.tile == h.tile) hs)) → AllByRecursion (Gives IsDriven) (host_ties h)
      here true e each = held-front (Gives IsDriven) (host_ties h) (flat_map host_ties (filter (λ (g : Host). g.tile == h.tile) hs)) each
      here false e each = absurd (false≢true e)

      later : (n : ℕ) (b : Bool) → AllByRecursion (Gives IsDriven) (flat_map host_ties (if b then h ∷ filter (λ (g : Host). g.tile == n) hs else filter (λ (g : Host). g.tile == n) hs))
          → AllByRecursion (Gives IsDriven) (flat_map host_ties (filter (λ (g : Host). g.tile == n) hs))
      later n true each = held-back (Gives IsDriven) (host_ties h) (flat_map host_ties (filter (λ (g : Host). g.tile == n) hs)) each
      later n false each = each

  pub ports-driven : AllByRecursion (λ (q : Port). q.output ≡ true → IsDriven q.name) (top_ports p)
  ports-driven =
      to-joined (λ (q : Port). q.output ≡ true → IsDriven q.name) host_ports p.hosts
      (all-map (λ (h : Host). AllByRecursion (Gives IsDriven) (host_ties h)) (λ (h : Host). AllByRecursion (λ (q : Port). q.output ≡ true → IsDriven q.name) (host_ports h))
      (λ h all. of-mapped (Gives IsDriven) (λ (q : Port). record { port = q; net = q.name }) (host_ports h) all) p.hosts
      (each-host p.hosts (few-hosts p sound) (λ n below. held-front (Gives IsDriven) (flat_map host_ties (filter (λ (h : Host). h.tile == n) p.hosts)) (flat_map (λ q. link_ties p n q (neighbour p n q)) (tabulate (ports p) (λ q. q))) (ties-driven n below))))

  pub wires-driven : AllByRecursion (λ i. IsDriven (item_name i)) (wires p sound)
  wires-driven =
      to-joined (λ i. IsDriven (item_name i)) (tile_wires p) (all_tiles p)
      (to-numbers (λ n. AllByRecursion (λ i. IsDriven (item_name i)) (tile_wires p n)) (tiles p) (λ n. n)
      (λ n below. to-joined (λ i. IsDriven (item_name i)) (λ q. link_wires p n q (neighbour p n q)) (tabulate (ports p) (λ q. q))
      (to-numbers (λ q. AllByRecursion (λ i. IsDriven (item_name i)) (link_wires p n q (neighbour p n q))) (ports p) (λ q. q)
      (λ q less. go n q (neighbour p n q) (at-number (λ k. AllByRecursion (Gives IsDriven) (link_ties p n k (neighbour p n k))) (ports p) (λ k. k)
      (of-joined (Gives IsDriven) (λ k. link_ties p n k (neighbour p n k)) (tabulate (ports p) (λ k. k))
      (held-back (Gives IsDriven) (flat_map host_ties (filter (λ (h : Host). h.tile == n) p.hosts)) (flat_map (λ k. link_ties p n k (neighbour p n k)) (tabulate (ports p) (λ k. k))) (ties-driven n below))) q less)))))
    where
      last : (n q m : ℕ) (b : Bool) → AllByRecursion (Gives IsDriven) (if b then second_ties p n q m (opposite q) else [])
          → AllByRecursion (λ i. IsDriven (item_name i)) (if b then Wire (credit_bits p - 64 - 1) (name_with (codes "cw") (n ∷ q ∷ 1 ∷ [])) ∷ [] else [])
      last n q m true all = (all.1.0 refl, tt)
      last n q m false all = tt

      go : (n q : ℕ) (x : Option ℕ) → AllByRecursion (Gives IsDriven) (link_ties p n q x) → AllByRecursion (λ i. IsDriven (item_name i)) (link_wires p n q x)
      go n q None all = tt
      go n q (Some m) all = (all.1.0 refl, (all.1.1.1.0 refl, last n q m (nat_lt 64 (credit_bits p)) all.1.1.1.1))
