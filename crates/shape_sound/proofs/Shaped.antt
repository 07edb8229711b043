-- A design of a plan's shape with sound leaves is sound.
use Rattle.std.proofs.Common.{◌≡◌, ◌≢◌, ℕ, zero, suc, ◌-◌, ◌<◌, ◌≤◌, bytes_eq, Bool, true, false, ◌&&◌, List, [], ◌∷◌, ◌++◌, map, length, Option, refl, sym, ◌∙◌, ap, subst, arith, ◌==◌}
use Rattle.std.specs.Prelude.{Some, None, filter, flat_map, nat_lt, if◌then◌else◌, codes}
use Rattle.std.specs.List.{AllByRecursion, list_all}
use Rattle.std.proofs.lemmas.Bool.{and_from}
use Rattle.std.proofs.lemmas.Bool.Decides.{nat_tests}
use Rattle.vl_tree.specs.declared.tree.Port.{Port}
use Rattle.vl_tree.specs.declared.tree.Join.{Join}
use Rattle.vl_tree.specs.declared.tree.TopItem.{TopItem}
use Rattle.vl_tree.specs.declared.tree.TopItem.TheVariants.{Wire}
use Rattle.vl_tree.specs.Tokens.{is_letter, is_run, is_name}
use Rattle.vl_tree.specs.Plain.{plain_number, plain_port, plain_join, plain_top_item}
use Rattle.vl_tree.specs.Values.{Leaf}
use Rattle.vl_model.specs.Lines.{heading, port, joint, top_lines, module_sites}
use Rattle.vl_model.specs.Rules.{rules, first_fault_of}
use Rattle.vl_model.specs.Laws.{NamesApart}
use Rattle.vl_model.proofs.Passed.{all-map}
use Rattle.vl_model.proofs.Settling.{itself}
use Rattle.vl_model.proofs.Together.{all-join, sound-together}
use Rattle.noc_model.specs.declared.Host.{Host}
use Rattle.noc_model.specs.Events.{tabulate}
use Rattle.noc_model.specs.Plan.{Plan, tiles, ports}
use Rattle.noc_model.specs.Place.{neighbour, opposite}
use Rattle.noc_model.specs.Sound.{IsSound}
use Rattle.noc_model.proofs.Coords.{positive}
use Rattle.noc_model.proofs.Ports.{opposite-near}
use Rattle.noc_model.proofs.StateKept.{neighbour-inside}
use Rattle.gen_kit.specs.Ports.{name_with, host_name, host_ports, top_ports}
use Rattle.gen_kit.specs.Shape.{Tied, credit_bits, second_ties, host_ties, link_ties, tile_ties, link_wires, tile_wires, tile_instance, Head, head_of, tile_head, all_tiles}
use Rattle.gen_kit.specs.Work.{leaf_name}
use Rattle.shape_sound.specs.Laws.{ShapeIsSound}
use Rattle.shape_sound.proofs.Listed.{to-numbers, to-mapped, to-joined, of-filtered, all-true}
use Rattle.shape_sound.proofs.Top.{few-tiles, few-ports, few-hosts, wires, instances, body, leaf-apart}
use Rattle.shape_sound.proofs.Drives.{join_of}
use Rattle.shape_sound.proofs.Rules.{no-fault-at-all}
use Rattle.shape_sound.proofs.Spelled.{spelled}
use Rattle.shape_sound.proofs.Widths.{few-link-bits, few-credits}

-- ---- names

-- what a name may begin with
abbrev IsHead : List ℕ → Type 0
IsHead [] = ⊥
IsHead (c ∷ hs) = (is_letter c ≡ true) × (list_all is_run hs ≡ true) × (length hs ≤ 5)

-- it is a name with one to three small numbers behind it
abbrev Named : List ℕ → Type 0
Named head = (n : ℕ) (ns : List ℕ) → length ns ≤ 2 → n < 1000 → AllByRecursion (λ k. k < 1000) ns → is_name (name_with head (n ∷ ns)) ≡ true

named : (head : List ℕ) → IsHead head → Named head
named [] h = absurd h
named (c ∷ hs) h = λ n ns few small all. spelled c hs n ns h.0 h.1 h.2 few small all

narrow-number : (h : ℕ) → h < 64 → plain_number h ≡ true
narrow-number h few = let less : h < 1_000_000_000 = omega (arith, few) in grind (arith, nat_tests, less)

-- ---- what is joined

abbrev PlainTie : Tied → Type 0
PlainTie t = (is_name t.port.name ≡ true) × (is_name t.net ≡ true)

host-plain : (h : Host) → h.tile < 256 → h.domain < 256 → AllByRecursion (λ (q : Port). plain_port q ≡ true) (host_ports h)
host-plain h a b = (
  at (codes "ov") (refl, refl, omega arith),
  (
    at (codes "oa") (refl, refl, omega arith),
    (
      at (codes "op") (refl, refl, omega arith),
      (
        at (codes "ol") (refl, refl, omega arith),
        (
          at (codes "hr") (refl, refl, omega arith),
          (
            at (codes "rd") (refl, refl, omega arith),
            (
              at (codes "dr") (refl, refl, omega arith),
              (
                at (codes "ev") (refl, refl, omega arith),
                (
                  at (codes "eh") (refl, refl, omega arith),
                  (
                    at (codes "et") (refl, refl, omega arith),
                    (at (codes "ep") (refl, refl, omega arith), tt),
                  ),
                ),
              ),
            ),
          ),
        ),
      ),
    ),
  ),
)
  where
    at : (head : List ℕ) → IsHead head → is_name (host_name head h) ≡ true
    at head ok = named head ok h.tile (h.domain ∷ []) (omega arith) (omega (arith, a)) (omega (arith, b), tt)

ports-plain : (q : Port) → plain_port q ≡ true → is_name q.name ≡ true
ports-plain q e = go (plain_number q.high) e
  where
    go : (b : Bool) → (b && is_name q.name) ≡ true → is_name q.name ≡ true
    go true rest = rest
    go false rest = absurd (cc rest)

link-plain : (p : Plan) (n q m : ℕ) → n < 256 → q < 8 → m < 256 → AllByRecursion PlainTie (link_ties p n q (Some m))
link-plain p n q m a b c = (
  (two (codes "li") (refl, refl, omega arith) n q small few, two (codes "lw") (refl, refl, omega arith) m r there back),
  (
    (two (codes "lo") (refl, refl, omega arith) n q small few, two (codes "lw") (refl, refl, omega arith) n q small few),
    (
      (two (codes "ci") (refl, refl, omega arith) n q small few, two (codes "cw") (refl, refl, omega arith) m r there back),
      ((two (codes "co") (refl, refl, omega arith) n q small few, two (codes "cw") (refl, refl, omega arith) n q small few), go (nat_lt 64 (credit_bits p))),
    ),
  ),
)
  where
    r : ℕ
    r = opposite q

    small : n < 1000
    small = omega (arith, a)

    few : q < 1000
    few = omega (arith, b)

    there : m < 1000
    there = omega (arith, c)

    back : opposite q < 1000
    back = let near = opposite-near q in omega (arith, near, b)

    two : (head : List ℕ) → IsHead head → (x y : ℕ) → x < 1000 → y < 1000 → is_name (name_with head (x ∷ y ∷ [])) ≡ true
    two head ok x y u w = named head ok x (y ∷ []) (omega arith) u (w, tt)

    three : (head : List ℕ) → IsHead head → (x y : ℕ) → x < 1000 → y < 1000 → is_name (name_with head (x ∷ y ∷ 1 ∷ [])) ≡ true
    three head ok x y u w = named head ok x (y ∷ 1 ∷ []) (omega arith) u (w, (omega arith, tt))

    go : (t : Bool) → AllByRecursion PlainTie (if t then second_ties p n q m (opposite q) else [])
    go true = (
      (three (codes "ci") (refl, refl, omega arith) n q small few, three (codes "cw") (refl, refl, omega arith) m (opposite q) there back),
      ((three (codes "co") (refl, refl, omega arith) n q small few, three (codes "cw") (refl, refl, omega arith) n q small few), tt),
    )
    go false = tt

module _ (p : Plan) (sound : IsSound p) where
  abbrev Inside : Host → Type 0
  Inside h = (h.tile < tiles p) × (h.domain < length p.domains)

  few-domains : (d : ℕ) → d < length p.domains → d < 256
  few-domains d below = let most = sound.domains.1 in omega (arith, below, most)

  all-ports-plain : AllByRecursion (λ (q : Port). plain_port q ≡ true) (top_ports p)
  all-ports-plain =
      to-joined (λ (q : Port). plain_port q ≡ true) host_ports p.hosts
      (all-map Inside (λ (h : Host). AllByRecursion (λ (q : Port). plain_port q ≡ true) (host_ports h)) (λ h a. host-plain h (few-tiles p sound h.tile a.0) (few-domains h.domain a.1)) p.hosts (few-hosts p sound))

  ties-plain : (n : ℕ) → n < tiles p → AllByRecursion PlainTie (tile_ties p n)
  ties-plain n below =
      all-join PlainTie (flat_map host_ties (filter (λ (h : Host). h.tile == n) p.hosts)) (flat_map (λ q. link_ties p n q (neighbour p n q)) (tabulate (ports p) (λ q. q)))
      (to-joined PlainTie host_ties (filter (λ (h : Host). h.tile == n) p.hosts)
      (of-filtered Inside (λ (h : Host). AllByRecursion PlainTie (host_ties h)) (λ (h : Host). h.tile == n)
      (λ h mine a. to-mapped PlainTie (λ (q : Port). record { port = q; net = q.name }) (host_ports h)
      (all-map (λ (q : Port). plain_port q ≡ true) (λ (q : Port). PlainTie (record { port = q; net = q.name })) (λ q e. (let is = ports-plain q e in (is, is))) (host_ports h) (host-plain h (few-tiles p sound h.tile a.0) (few-domains h.domain a.1))))
      p.hosts (few-hosts p sound)))
      (to-joined PlainTie (λ q. link_ties p n q (neighbour p n q)) (tabulate (ports p) (λ q. q))
      (to-numbers (λ q. AllByRecursion PlainTie (link_ties p n q (neighbour p n q))) (ports p) (λ q. q) (λ q less. go q less (neighbour p n q) refl)))
    where
      go : (q : ℕ) → q < ports p → (x : Option ℕ) → neighbour p n q ≡ x → AllByRecursion PlainTie (link_ties p n q x)
      go q less None e = tt
      go q less (Some m) e =
          let few = few-ports p sound in
          link-plain p n q m (few-tiles p sound n below) (omega (arith, less, few)) (few-tiles p sound m (neighbour-inside p n q m (positive p.dims sound.sides) e))

  abbrev IsPlainItem : TopItem → Type 0
  IsPlainItem i = plain_top_item i ≡ true

  wires-plain : AllByRecursion IsPlainItem (wires p sound)
  wires-plain =
      to-joined IsPlainItem (tile_wires p) (all_tiles p)
      (to-numbers (λ n. AllByRecursion IsPlainItem (tile_wires p n)) (tiles p) (λ n. n)
      (λ n below. to-joined IsPlainItem (λ q. link_wires p n q (neighbour p n q)) (tabulate (ports p) (λ q. q))
      (to-numbers (λ q. AllByRecursion IsPlainItem (link_wires p n q (neighbour p n q))) (ports p) (λ q. q) (λ q less. go n q (few-tiles p sound n below) (let few = few-ports p sound in omega (arith, less, few)) (neighbour p n q)))))
    where
      last : (n q : ℕ) → n < 256 → q < 8 → (b : Bool) → AllByRecursion IsPlainItem (if b then Wire (credit_bits p - 64 - 1) (name_with (codes "cw") (n ∷ q ∷ 1 ∷ [])) ∷ [] else [])
      last n q a b true = (
        and_from (plain_number (credit_bits p - 64 - 1)) (is_name (name_with (codes "cw") (n ∷ q ∷ 1 ∷ []))) (narrow-number (credit_bits p - 64 - 1) (let most = few-credits p sound in omega (arith, most)))
            (named (codes "cw") (refl, refl, omega arith) n (q ∷ 1 ∷ []) (omega arith) (omega (arith, a)) (omega (arith, b), (omega arith, tt))),
        tt,
      )
      last n q a b false = tt

      go : (n q : ℕ) → n < 256 → q < 8 → (x : Option ℕ) → AllByRecursion IsPlainItem (link_wires p n q x)
      go n q a b None = tt
      go n q a b (Some m) = (
        and_from (plain_number _) (is_name (name_with (codes "lw") (n ∷ q ∷ []))) (narrow-number _ (let most = few-link-bits p sound in omega (arith, most)))
            (named (codes "lw") (refl, refl, omega arith) n (q ∷ []) (omega arith) (omega (arith, a)) (omega (arith, b), tt)),
        (
          and_from (plain_number _) (is_name (name_with (codes "cw") (n ∷ q ∷ []))) (narrow-number _ (omega arith))
              (named (codes "cw") (refl, refl, omega arith) n (q ∷ []) (omega arith) (omega (arith, a)) (omega (arith, b), tt)),
          last n q a b (nat_lt 64 (credit_bits p)),
        ),
      )

  instances-plain : AllByRecursion IsPlainItem (instances p sound)
  instances-plain = to-mapped IsPlainItem (tile_instance p) (all_tiles p) (to-numbers (λ n. IsPlainItem (tile_instance p n)) (tiles p) (λ n. n) one)
    where
      one : (n : ℕ) → n < tiles p → IsPlainItem (tile_instance p n)
      one n below =
          let few = few-tiles p sound n below in
          and_from (is_name (leaf_name n) && is_name (name_with (codes "tile") (n ∷ []))) (list_all plain_join (map join_of (tile_ties p n)))
          (and_from (is_name (leaf_name n)) (is_name (name_with (codes "tile") (n ∷ []))) (named (codes "router") (refl, refl, omega arith) n [] (omega arith) (omega (arith, few)) tt)
          (named (codes "tile") (refl, refl, omega arith) n [] (omega arith) (omega (arith, few)) tt))
          (all-true plain_join (map join_of (tile_ties p n))
          (to-mapped (λ (j : Join). plain_join j ≡ true) join_of (tile_ties p n)
          (all-map PlainTie (λ (t : Tied). plain_join (join_of t) ≡ true) (λ t e. and_from (is_name t.port.name) (is_name t.net) e.0 e.1) (tile_ties p n) (ties-plain n below))))

  -- ---- leaves have names of their own

  other-leaves : (ls : List Leaf) (n k : ℕ) (g : ℕ → ℕ) → map head_of ls ≡ map (tile_head p) (tabulate k g) → ((i : ℕ) → i < k → n < g i) → ((i : ℕ) → i < k → g i < tiles p)
      → AllByRecursion (λ (l : Leaf). l.name ≢ leaf_name n) ls
  other-leaves [] n k g e later inside = tt
  other-leaves (l ∷ ls) n zero g e later inside = absurd (cc e)
  other-leaves (l ∷ ls) n (suc k) g e later inside =
      let head : head_of l ≡ tile_head p (g 0) = cc e in
      let rest : map head_of ls ≡ map (tile_head p) (tabulate k (λ j. g (suc j))) = cc e in (
        (λ same. differ (g 0) (later 0 (omega arith)) (inside 0 (omega arith)) (sym (ap (λ (h : Head). h.name) head) ∙ same)),
        other-leaves ls n k (λ j. g (suc j)) rest (λ i less. later (suc i) (omega (arith, less))) (λ i less. inside (suc i) (omega (arith, less))),
      )
    where
      differ : (m : ℕ) → n < m → m < tiles p → leaf_name m ≡ leaf_name n → ⊥
      differ m less below same = absurd (cc (leaf-apart p sound n m less below, ap (λ z. bytes_eq z (leaf_name n)) same ∙ itself (leaf_name n)))

  names-apart : (ls : List Leaf) (k : ℕ) (g : ℕ → ℕ) → map head_of ls ≡ map (tile_head p) (tabulate k g) → ((i j : ℕ) → i < j → j < k → g i < g j) → ((i : ℕ) → i < k → g i < tiles p) → NamesApart ls
  names-apart [] k g e rising inside = tt
  names-apart (l ∷ ls) zero g e rising inside = absurd (cc e)
  names-apart (l ∷ ls) (suc k) g e rising inside =
      let head : head_of l ≡ tile_head p (g 0) = cc e in
      let rest : map head_of ls ≡ map (tile_head p) (tabulate k (λ j. g (suc j))) = cc e in (
        subst (λ z. AllByRecursion (λ (x : Leaf). x.name ≢ z) ls) (sym (ap (λ (h : Head). h.name) head))
            (other-leaves ls (g 0) k (λ j. g (suc j)) rest (λ i less. rising 0 (suc i) (omega arith) (omega (arith, less))) (λ i less. inside (suc i) (omega (arith, less)))),
        names-apart ls k (λ j. g (suc j)) rest (λ i j less under. rising (suc i) (suc j) (omega (arith, less)) (omega (arith, under))) (λ i less. inside (suc i) (omega (arith, less))),
      )

pub shape-is-sound : ShapeIsSound
shape-is-sound p d sound shape leaves =
    sound-together d leaves (names-apart p sound d.leaves (tiles p) (λ n. n) shape.leaves (λ i j less below. less) (λ i below. below))
    (ap (list_all plain_port) shape.ports ∙ all-true plain_port (top_ports p) (all-ports-plain p sound))
    (ap (list_all plain_top_item) shape.items ∙ all-true plain_top_item (wires p sound ++ instances p sound) (all-join (λ i. plain_top_item i ≡ true) (wires p sound) (instances p sound) (wires-plain p sound) (instances-plain p sound)))
    (ap (λ ls. first_fault_of rules (module_sites d.leaves ls)) lines ∙ no-fault-at-all p d sound shape)
  where
    lines : top_lines d.top ≡ heading (codes "noc") ∷ body p sound
    lines = ap (λ ps. heading (codes "noc") ∷ (map port ps ++ map joint d.top.items)) shape.ports ∙ ap (λ is. heading (codes "noc") ∷ (map port (top_ports p) ++ map joint is)) shape.items
