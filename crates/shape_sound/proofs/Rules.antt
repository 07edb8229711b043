-- The top breaks no rule.
use Rattle.std.proofs.Common.{◌≡◌, ℕ, ◌+◌, ◌-◌, ◌<◌, Bool, true, false, not, ◌&&◌, List, [], ◌∷◌, ◌++◌, map, Option, refl, sym, ◌∙◌, ap, subst, arith, bytes_eq, ◌==◌, cond, append_assoc}
use Rattle.std.specs.Prelude.{Some, None, is_some, count_by, nat_lt, if◌then◌else◌, codes}
use Rattle.std.specs.List.{AllByRecursion, list_all, list_any}
use Rattle.std.proofs.lemmas.List.{append-nil}
use Rattle.std.proofs.lemmas.Bool.{false≢true}
use Rattle.std.proofs.lemmas.Bool.Decides.{nat_tests}
use Rattle.std.proofs.lemmas.List.Sums.{sum_by-cons}
use Rattle.vl_tree.specs.declared.tree.Port.{Port}
use Rattle.vl_tree.specs.declared.tree.Join.{Join}
use Rattle.vl_tree.specs.declared.tree.TopItem.{TopItem}
use Rattle.vl_tree.specs.declared.tree.TopItem.TheVariants.{Wire, Instance}
use Rattle.vl_tree.specs.Values.{Name, Leaf, Design}
use Rattle.vl_model.specs.Lines.{Line, heading, port, joint, Site, sites_behind, module_sites, Declared, lookup, kind_passes, way_of, is_net, is_output, is_driven, net_bits, widths, port_named}
use Rattle.vl_model.specs.Rules.{name_twice, name_unknown, joins_known, instance_known, wrong_width, join_fits, instance_fits, wrong_order, wrong_driver, wants_driver, drivers, goes_through, all_depending, wrong_size, wrong_joins, joins_each, rules, first_fault_of}
use Rattle.vl_model.proofs.Ordered.{lookup-front}
use Rattle.vl_model.proofs.Passed.{Passes, all-map}
use Rattle.vl_model.proofs.One.{all-both}
use Rattle.vl_model.proofs.Together.{all-join, all-none}
use Rattle.vl_model.proofs.Settling.{one-name}
use Rattle.noc_model.specs.declared.Host.{Host}
use Rattle.noc_model.specs.Events.{tabulate}
use Rattle.noc_model.specs.Plan.{Plan, tiles, ports}
use Rattle.noc_model.specs.Place.{neighbour}
use Rattle.noc_model.specs.Sound.{IsSound}
use Rattle.gen_kit.specs.Ports.{name_with, host_ports, top_ports}
use Rattle.gen_kit.specs.Shape.{Tied, credit_bits, tile_ties, link_wires, tile_wires, tile_instance, all_tiles, HasShape}
use Rattle.shape_sound.proofs.Rising.{count, count-one}
use Rattle.shape_sound.proofs.Lines.{IsBody, item_name, Finds, once-passes}
use Rattle.shape_sound.proofs.Listed.{to-numbers, of-mapped, to-mapped, to-joined, all-true}
use Rattle.shape_sound.proofs.Ties.{port_names, map-append, names-rise}
use Rattle.shape_sound.proofs.Top.{TieFits, few-tiles, few-ports, sorted, wires, instances, body, body-rises, base, ports-found, ties-fit, ports-named, its-leaf, no-noc}
use Rattle.shape_sound.proofs.Drives.{join_of, ports-driven, wires-driven, IsDriven}
use Rattle.shape_sound.proofs.Widths.{few-link-bits, few-credits}

-- ---- sites

abbrev site : List Leaf → List Line → List Line → Line → Site
site ls all before x = record { leaves = ls; lines = all; before = before; line = x }

passes-any : (t : Site → Bool) (ls : List Leaf) (all before xs : List Line) → AllByRecursion (λ x. (b : List Line) → t (site ls all b x) ≡ false) xs → Passes t (sites_behind ls all before xs)
passes-any t ls all before [] h = tt
passes-any t ls all before (x ∷ xs) h = (h.0 before, passes-any t ls all (before ++ x ∷ []) xs h.1)

passes-append : (t : Site → Bool) (ls : List Leaf) (all before a b : List Line) → Passes t (sites_behind ls all before a) → Passes t (sites_behind ls all (before ++ a) b) → Passes t (sites_behind ls all before (a ++ b))
passes-append t ls all before [] b pa pb = subst (λ y. Passes t (sites_behind ls all y b)) (append-nil before) pb
passes-append t ls all before (x ∷ a) b pa pb =
    (pa.0, passes-append t ls all (before ++ x ∷ []) a b pa.1 (subst (λ y. Passes t (sites_behind ls all y b)) (sym (append_assoc before (x ∷ []) a)) pb))

passes-instances : (t : Site → Bool) (ls : List Leaf) (all front : List Line) (is : List TopItem) → AllByRecursion (λ i. (more : List Line) → t (site ls all (front ++ more) (joint i)) ≡ false) is
    → (more : List Line) → Passes t (sites_behind ls all (front ++ more) (map joint is))
passes-instances t ls all front [] h more = tt
passes-instances t ls all front (i ∷ is) h more = (
  h.0 more,
  subst (λ y. Passes t (sites_behind ls all y (map joint is))) (sym (append_assoc front more (joint i ∷ []))) (passes-instances t ls all front is h.1 (more ++ joint i ∷ [])),
)

-- ---- one tie

same-number : (x : ℕ) → (x == x) ≡ true
same-number x = let e : x ≡ x = refl in grind (arith, nat_tests)

abbrev PortIn : List Port → Tied → Type 0
PortIn ps t = port_named ps t.port.name ≡ Some t.port

module _ (front more : List Line) (t : Tied) (fits : TieFits front t) where
  here : lookup (front ++ more) t.net ≡ Some fits.found
  here = lookup-front front more t.net fits.found fits.is

  tie-known : joins_known (front ++ more) t.net (Some t.port) ≡ true
  tie-known = go t.port.output refl
    where
      go : (b : Bool) → t.port.output ≡ b → kind_passes (if b then is_driven else is_net) (lookup (front ++ more) t.net) ≡ true
      go true out = ap (kind_passes is_driven) here ∙ fits.driven out
      go false off = ap (kind_passes is_net) here ∙ fits.net_kind

  tie-wide : join_fits (widths (front ++ more)) t.net (Some t.port) ≡ true
  tie-wide =
      ap (λ o. t.port.high + 1 == net_bits o) here ∙ ap (λ b. t.port.high + 1 == (if b then fits.found.high + 1 else 0)) fits.net_kind
      ∙ ap (λ k. t.port.high + 1 == k + 1) fits.high ∙ same-number (t.port.high + 1)

-- a port is joined as often as its name stands among the names of all
counts-names : (x : Name) (ts : List Tied) → count_by (λ (j : Join). bytes_eq x j.port) (map join_of ts) ≡ count x (port_names ts)
counts-names x [] = refl
counts-names x (t ∷ ts) =
    sum_by-cons (λ (j : Join). cond (bytes_eq x j.port) 1 0) (join_of t) (map join_of ts) ∙ ap (λ k. cond (bytes_eq x t.port.name) 1 0 + k) (counts-names x ts)

-- ---- what depends on input ports

module _ (x : Name) where
  abbrev Free : List Name → Type 0
  Free ns = list_any (bytes_eq x) ns ≡ false

  depend-ports : (ps : List Port) (ns : List Name) (rest : List Line) → Free ns → AllByRecursion (λ (q : Port). q.output ≡ false → bytes_eq x q.name ≡ false) ps → ((ms : List Name) → Free ms → Free (all_depending ms rest))
      → Free (all_depending ns (map port ps ++ rest))
  depend-ports [] ns rest free all later = later ns free
  depend-ports (q ∷ ps) ns rest free all later = go q.output refl (λ ms f. depend-ports ps ms rest f all.1 later)
    where
      go : (b : Bool) → q.output ≡ b → ((ms : List Name) → Free ms → Free (all_depending ms (map port ps ++ rest))) → Free (all_depending (if b then ns else q.name ∷ ns) (map port ps ++ rest))
      go true out f = f ns free
      go false off f = f (q.name ∷ ns) (rw (all.0 off) free)

  depend-joints : (is : List TopItem) (ns : List Name) → Free ns → Free (all_depending ns (map joint is))
  depend-joints [] ns free = free
  depend-joints (i ∷ is) ns free = depend-joints is ns free

-- ---- the rules

module _ (p : Plan) (d : Design) (sound : IsSound p) (shape : HasShape p d) where
  abbrev pub lines : List Line
  lines = heading (codes "noc") ∷ body p sound

  abbrev At : List Line → Line → Site
  At b x = site d.leaves lines b x

  -- a rule at each line
  module _ (t : Site → Bool) (first : t (At [] (heading (codes "noc"))) ≡ false) (at_ports : AllByRecursion (λ (q : Port). (b : List Line) → t (At b (port q)) ≡ false) (top_ports p))
      (at_wires : AllByRecursion (λ i. (b : List Line) → t (At b (joint i)) ≡ false) (wires p sound))
      (at_instances : (n : ℕ) → n < tiles p → (more : List Line) → t (At (base p sound ++ more) (joint (tile_instance p n))) ≡ false) where
    abbrev front : List Line
    front = map port (top_ports p) ++ map joint (wires p sound)

    whole : front ++ map joint (instances p sound) ≡ body p sound
    whole = append_assoc (map port (top_ports p)) (map joint (wires p sound)) (map joint (instances p sound)) ∙ ap (λ z. map port (top_ports p) ++ z) (sym (map-append joint (wires p sound) (instances p sound)))

    rule-passes : Passes t (module_sites d.leaves lines)
    rule-passes = (
      first,
      subst (λ ys. Passes t (sites_behind d.leaves lines (heading (codes "noc") ∷ []) ys)) whole
          (passes-append t d.leaves lines (heading (codes "noc") ∷ []) front (map joint (instances p sound))
          (passes-any t d.leaves lines (heading (codes "noc") ∷ []) front
          (all-join (λ x. (b : List Line) → t (At b x) ≡ false) (map port (top_ports p)) (map joint (wires p sound))
          (to-mapped (λ x. (b : List Line) → t (At b x) ≡ false) port (top_ports p) at_ports) (to-mapped (λ x. (b : List Line) → t (At b x) ≡ false) joint (wires p sound) at_wires)))
          (subst (λ y. Passes t (sites_behind d.leaves lines y (map joint (instances p sound)))) (append-nil (base p sound))
          (passes-instances t d.leaves lines (base p sound) (instances p sound)
          (to-mapped (λ i. (more : List Line) → t (At (base p sound ++ more) (joint i)) ≡ false) (tile_instance p) (all_tiles p)
          (to-numbers (λ n. (more : List Line) → t (At (base p sound ++ more) (joint (tile_instance p n))) ≡ false) (tiles p) (λ n. n) at_instances)) []))),
    )

  -- ---- what each wire is

  abbrev IsFine : TopItem → Type 0
  IsFine (Wire h n) = (h < 64) × IsDriven p d sound shape n
  IsFine (Instance l n joins) = ⊥

  abbrev IsNarrow : TopItem → Type 0
  IsNarrow (Wire h n) = h < 64
  IsNarrow (Instance l n joins) = ⊥

  narrow : AllByRecursion IsNarrow (wires p sound)
  narrow =
      to-joined IsNarrow (tile_wires p) (all_tiles p)
      (to-numbers (λ n. AllByRecursion IsNarrow (tile_wires p n)) (tiles p) (λ n. n)
      (λ n below. to-joined IsNarrow (λ q. link_wires p n q (neighbour p n q)) (tabulate (ports p) (λ q. q))
      (to-numbers (λ q. AllByRecursion IsNarrow (link_wires p n q (neighbour p n q))) (ports p) (λ q. q) (λ q less. go n q (neighbour p n q)))))
    where
      last : (n q : ℕ) (b : Bool) → AllByRecursion IsNarrow (if b then Wire (credit_bits p - 64 - 1) (name_with (codes "cw") (n ∷ q ∷ 1 ∷ [])) ∷ [] else [])
      last n q true = ((let most = few-credits p sound in omega (arith, most)), tt)
      last n q false = tt

      go : (n q : ℕ) (x : Option ℕ) → AllByRecursion IsNarrow (link_wires p n q x)
      go n q None = tt
      go n q (Some m) = ((let most = few-link-bits p sound in omega (arith, most)), (omega arith, last n q (nat_lt 64 (credit_bits p))))

  fine : AllByRecursion IsFine (wires p sound)
  fine = all-both IsNarrow (λ i. IsDriven p d sound shape (item_name i)) IsFine both (wires p sound) narrow (wires-driven p d sound shape)
    where
      both : (i : TopItem) → IsNarrow i → IsDriven p d sound shape (item_name i) → IsFine i
      both (Wire h n) a b = (a, b)
      both (Instance l n joins) a b = absurd a

  at-wires : (t : Site → Bool) → ((h : ℕ) (n : Name) → h < 64 → IsDriven p d sound shape n → (b : List Line) → t (At b (joint (Wire h n))) ≡ false) → AllByRecursion (λ i. (b : List Line) → t (At b (joint i)) ≡ false) (wires p sound)
  at-wires t f = all-map IsFine (λ i. (b : List Line) → t (At b (joint i)) ≡ false) each (wires p sound) fine
    where
      each : (i : TopItem) → IsFine i → (b : List Line) → t (At b (joint i)) ≡ false
      each (Wire h n) a = f h n a.0 a.1
      each (Instance l n joins) a = absurd a

  at-ports : (t : Site → Bool) → ((q : Port) (b : List Line) → t (At b (port q)) ≡ false) → AllByRecursion (λ (q : Port). (b : List Line) → t (At b (port q)) ≡ false) (top_ports p)
  at-ports t f = go (top_ports p)
    where
      go : (ps : List Port) → AllByRecursion (λ (q : Port). (b : List Line) → t (At b (port q)) ≡ false) ps
      go [] = tt
      go (q ∷ ps) = (f q, go ps)

  -- ---- one by one

  abbrev joins : ℕ → List Join
  joins n = map join_of (tile_ties p n)

  -- a test of all joins, from a test of each tie
  each-join : (n : ℕ) (below : n < tiles p) (test : Name → Option Port → Bool) → AllByRecursion (λ (t : Tied). test t.net (Some t.port) ≡ true) (tile_ties p n)
      → list_all (λ (j : Join). test j.net (port_named (its-leaf p sound d shape n below).leaf.ports j.port)) (joins n) ≡ true
  each-join n below test all =
      let at = its-leaf p sound d shape n below in
      all-true (λ (j : Join). test j.net (port_named at.leaf.ports j.port)) (joins n)
      (to-mapped (λ (j : Join). test j.net (port_named at.leaf.ports j.port) ≡ true) join_of (tile_ties p n)
      (all-both (PortIn (map (λ (s : Tied). s.port) (tile_ties p n))) (λ (t : Tied). test t.net (Some t.port) ≡ true) (λ (t : Tied). test t.net (port_named at.leaf.ports t.port.name) ≡ true)
      (λ t e ok. ap (λ ps. test t.net (port_named ps t.port.name)) at.its_ports ∙ ap (test t.net) e ∙ ok) (tile_ties p n) (ports-named p sound n below) all))

  once : Passes name_twice (module_sites d.leaves lines)
  unfolding name_twice
  once = (ap is_some (no-noc p sound d shape), once-passes d.leaves lines (heading (codes "noc") ∷ []) (body p sound) 0 (8388608 + tiles p) no-heading (tt, tt) (body-rises p sound))
    where
      ports-body : (ps : List Port) → AllByRecursion IsBody (map port ps)
      ports-body [] = tt
      ports-body (q ∷ ps) = (tt, ports-body ps)

      joints-body : (is : List TopItem) → AllByRecursion IsBody (map joint is)
      joints-body [] = tt
      joints-body (i ∷ is) = (tt, joints-body is)

      no-heading : AllByRecursion IsBody (body p sound)
      no-heading = all-join IsBody (map port (top_ports p)) (map joint (wires p sound ++ instances p sound)) (ports-body (top_ports p)) (joints-body (wires p sound ++ instances p sound))

  known : Passes name_unknown (module_sites d.leaves lines)
  unfolding name_unknown
  known =
      rule-passes name_unknown refl (at-ports name_unknown (λ q b. refl)) (at-wires name_unknown (λ h n few driven b. refl))
      (λ n below more. (let at = its-leaf p sound d shape n below in
      ap (λ o. not (instance_known (base p sound ++ more) (joins n) o)) at.named
      ∙ ap not (each-join n below (joins_known (base p sound ++ more))
      (all-map (TieFits (base p sound)) (λ (t : Tied). joins_known (base p sound ++ more) t.net (Some t.port) ≡ true) (λ t fits. tie-known (base p sound) more t fits) (tile_ties p n) (ties-fit p sound n below)))))

  width : Passes wrong_width (module_sites d.leaves lines)
  unfolding wrong_width
  width =
      rule-passes wrong_width refl
      (to-joined (λ (q : Port). (b : List Line) → wrong_width (At b (port q)) ≡ false) host_ports p.hosts (go p.hosts))
      (at-wires wrong_width (λ h n few driven b. (let is : nat_lt h 64 ≡ true = grind (arith, nat_tests, few) in ap not is)))
      (λ n below more. (let at = its-leaf p sound d shape n below in
      ap (λ o. not (instance_fits (widths (base p sound ++ more)) (joins n) o)) at.named
      ∙ ap not (each-join n below (join_fits (widths (base p sound ++ more)))
      (all-map (TieFits (base p sound)) (λ (t : Tied). join_fits (widths (base p sound ++ more)) t.net (Some t.port) ≡ true) (λ t fits. tie-wide (base p sound) more t fits) (tile_ties p n) (ties-fit p sound n below)))))
    where
      go : (hs : List Host) → AllByRecursion (λ (h : Host). AllByRecursion (λ (q : Port). (b : List Line) → wrong_width (At b (port q)) ≡ false) (host_ports h)) hs
      go [] = tt
      go (h ∷ hs) = (((λ b. refl), ((λ b. refl), ((λ b. refl), ((λ b. refl), ((λ b. refl), ((λ b. refl), ((λ b. refl), ((λ b. refl), ((λ b. refl), ((λ b. refl), ((λ b. refl), tt))))))))))), go hs)

  order : Passes wrong_order (module_sites d.leaves lines)
  unfolding wrong_order
  order = rule-passes wrong_order refl (at-ports wrong_order (λ q b. refl)) (at-wires wrong_order (λ h n few driven b. refl)) (λ n below more. refl)

  driver : Passes wrong_driver (module_sites d.leaves lines)
  unfolding wrong_driver
  driver =
      rule-passes wrong_driver refl
      (all-map (λ (q : Port). q.output ≡ true → IsDriven p d sound shape q.name) (λ (q : Port). (b : List Line) → wrong_driver (At b (port q)) ≡ false) (λ q driven b. way q driven q.output refl) (top_ports p) (ports-driven p d sound shape))
      (at-wires wrong_driver (λ h n few driven b. ap (λ k. not (k == 1)) driven)) (λ n below more. refl)
    where
      way : (q : Port) → (q.output ≡ true → IsDriven p d sound shape q.name) → (o : Bool) → q.output ≡ o → (wants_driver (way_of o) && not (drivers d.leaves lines q.name == 1)) ≡ false
      way q driven true out = ap (λ k. not (k == 1)) (driven out)
      way q driven false off = refl

  abbrev Found : Port → Type 0
  Found q = Finds (base p sound) (port q)

  all-found : AllByRecursion Found (top_ports p)
  all-found = to-joined Found host_ports p.hosts (ports-found p sound)

  -- an output port and an input port have other names
  apart : (q r : Port) → Found q → Found r → q.output ≡ true → r.output ≡ false → bytes_eq q.name r.name ≡ false
  apart q r a b out off = go (bytes_eq q.name r.name) refl
    where
      outs : Option Declared → Bool
      outs None = false
      outs (Some z) = is_output z.kind

      go : (c : Bool) → bytes_eq q.name r.name ≡ c → c ≡ false
      go false e = refl
      go true e =
          absurd (false≢true (sym (ap (λ b. is_output (way_of b)) off) ∙ sym (ap outs b) ∙ ap (λ n. outs (lookup (base p sound) n)) (sym (one-name q.name r.name e)) ∙ ap outs a ∙ ap (λ b. is_output (way_of b)) out))

  through : Passes goes_through (module_sites d.leaves lines)
  unfolding goes_through
  through =
      rule-passes goes_through refl
      (all-map Found (λ (q : Port). (b : List Line) → goes_through (At b (port q)) ≡ false) (λ q a b. way q a q.output refl) (top_ports p) all-found)
      (at-wires goes_through (λ h n few driven b. refl)) (λ n below more. refl)
    where
      way : (q : Port) → Found q → (o : Bool) → q.output ≡ o → (o && list_any (bytes_eq q.name) (all_depending [] lines)) ≡ false
      way q a true out =
          depend-ports q.name (top_ports p) [] (map joint (wires p sound ++ instances p sound)) refl
          (all-map Found (λ (r : Port). r.output ≡ false → bytes_eq q.name r.name ≡ false) (λ r b off. apart q r a b out off) (top_ports p) all-found)
          (λ ms free. depend-joints q.name (wires p sound ++ instances p sound) ms free)
      way q a false off = refl

  size : Passes wrong_size (module_sites d.leaves lines)
  unfolding wrong_size
  size = rule-passes wrong_size refl (at-ports wrong_size (λ q b. refl)) (at-wires wrong_size (λ h n few driven b. refl)) (λ n below more. refl)

  joined : Passes wrong_joins (module_sites d.leaves lines)
  unfolding wrong_joins
  joined =
      rule-passes wrong_joins refl (at-ports wrong_joins (λ q b. refl)) (at-wires wrong_joins (λ h n few driven b. refl))
      (λ n below more. (let at = its-leaf p sound d shape n below in
      ap (λ o. not (joins_each (joins n) o)) at.named ∙ ap (λ ps. not (list_all (λ (q : Port). count_by (λ (j : Join). bytes_eq q.name j.port) (joins n) == 1) ps)) at.its_ports
      ∙ ap not (all-true (λ (q : Port). count_by (λ (j : Join). bytes_eq q.name j.port) (joins n) == 1) (map (λ (t : Tied). t.port) (tile_ties p n))
      (to-mapped (λ (q : Port). (count_by (λ (j : Join). bytes_eq q.name j.port) (joins n) == 1) ≡ true) (λ (t : Tied). t.port) (tile_ties p n)
      (all-map (λ (t : Tied). count t.port.name (port_names (tile_ties p n)) ≡ 1) (λ (t : Tied). (count_by (λ (j : Join). bytes_eq t.port.name j.port) (joins n) == 1) ≡ true)
      (λ t one. ap (λ k. k == 1) (counts-names t.port.name (tile_ties p n) ∙ one)) (tile_ties p n)
      (of-mapped (λ x. count x (port_names (tile_ties p n)) ≡ 1) (λ (t : Tied). t.port.name) (tile_ties p n)
      (count-one 0 4194304 (port_names (tile_ties p n)) (names-rise p n (few-tiles p sound n below) (few-ports p sound) (sorted p sound)))))))))

  pub no-fault-at-all : first_fault_of rules (module_sites d.leaves lines) ≡ None
  no-fault-at-all = all-none rules (module_sites d.leaves lines) (once, (known, (width, (order, (driver, (through, (size, (joined, tt))))))))
