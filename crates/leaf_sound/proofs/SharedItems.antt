-- The items of slot counters and of links, which all domains share, are right.
use Rattle.std.proofs.Common.{◌≡◌, ℕ, zero, suc, ◌+◌, ◌-◌, ◌*◌, ◌^◌, ◌<◌, ◌≤◌, ◌⊎◌, inl, inr, Bool, true, false, List, [], ◌∷◌, length, refl, ap, subst, arith, is_some, ◌==◌, if◌then◌else◌, pos}
use Rattle.vl_tree.specs.declared.tree.Op.TheVariants.{Or, Add, Equal}
use Rattle.vl_tree.specs.Values.{Name, net, part, two, cat, parts, no_parts}
use Rattle.vl_model.specs.declared.kind.Kind.TheVariants.{Inner, Register}
use Rattle.vl_model.specs.Lines.{Line}
use Rattle.noc_model.specs.Plan.{Plan, tiles, ports}
use Rattle.noc_model.specs.Place.{neighbour, route, way_of, way_from, goes_plus, port_of, coords_in}
use Rattle.noc_model.specs.declared.ways.Way.TheVariants.{Plus, Minus}
use Rattle.noc_model.specs.Sound.{IsSound}
use Rattle.flit_word.specs.Words.{dest_bits, channel_bits, flit_bits}
use Rattle.gen_kit.specs.Families.{in_bits}
use Rattle.gen_kit.specs.Mux.{table, branch, are_same, constant_of}
use Rattle.leaf_tie.specs.Slots.{SlotNames, owned, leaving_slot}
use Rattle.leaf_tie.specs.Links.{LinkNames, owners_word, link_group}
use Rattle.leaf_tie.specs.Tie.{HasLink}
use Rattle.leaf_tie.specs.Glue.{link_names, route_bits}
use Rattle.leaf_tie.specs.Whole.{uses_slot, slot_groups, shared_groups}
use Rattle.leaf_tie.specs.Names.{leaf_names, net_names, port_names, leaf_sizes, slot_high}
use Rattle.leaf_tie.proofs.Grouped.{uses-leaving}
use Rattle.leaf_tie.proofs.Started.{slot-below}
use Rattle.leaf_sound.proofs.Bits.{sizes-meet, bits-some}
use Rattle.leaf_sound.proofs.Inner.{few-ports}
use Rattle.leaf_sound.proofs.Typed.{Net, Is, net-is, number-is, bit-is, part-is, two-is, choose-is, none-are, next-are, cat-is, deeper, wide-as}
use Rattle.leaf_sound.proofs.Walk.{May, Any}
use Rattle.leaf_sound.proofs.Domain.{Wire, ls, by-register, by-rank, word, few-dests}
use Rattle.leaf_sound.proofs.Shared.{Given, link-in, goal, stored, row, counter, owns, few-slot, few-word-bits}
use Rattle.leaf_sound.proofs.Items.{Good, good-nil, nets-nil, net-next, assign-next, reg-next, wire-next, clocked-next, good-each, nets-each, GoodGroups, no-groups, group-next, groups-each, groups-if}

pub pow-pos : (k : ℕ) → 0 < 2 ^ k
pow-pos zero = omega arith
pow-pos (suc k) = let rest = pow-pos k in omega (arith, rest)

pub two-more : (h : ℕ) → 1 < 2 ^ (h + 1)
two-more h = let some = pow-pos h in let all : 1 < 2 ^ suc h = omega (arith, some) in subst (λ k. 1 < 2 ^ k) (let e : suc h ≡ h + 1 = omega arith in e) all

pow-less : (a b : ℕ) → a < b → 2 ^ a < 2 ^ b
pow-less a zero less = absurd (omega arith)
pow-less a (suc b) less = go (λ h. pow-less a b h) order
  where
    order : (a < b) ⊎ (a ≡ b)
    order = grind arith

    go : (a < b → 2 ^ a < 2 ^ b) → (a < b) ⊎ (a ≡ b) → 2 ^ a < 2 ^ suc b
    go more (inl h) = let rest = more h in omega (arith, rest)
    go more (inr e) = let some = pow-pos b in let same : 2 ^ a ≡ 2 ^ b = ap (λ k. 2 ^ k) e in omega (arith, some, same)

way-below : (torus : Bool) (i : ℕ) (ks xs ys : List ℕ) → port_of (way_from torus i ks xs ys) < 1 + 2 * (i + length ks)
way-below torus i [] xs ys = omega arith
way-below torus i (k ∷ ks) [] ys = omega arith
way-below torus i (k ∷ ks) (x ∷ xs) [] = omega arith
way-below torus i (k ∷ ks) (x ∷ xs) (y ∷ ys) = go (x == y) (goes_plus torus k x y) (way-below torus (suc i) ks xs ys)
  where
    go : (b c : Bool) → port_of (way_from torus (suc i) ks xs ys) < 1 + 2 * (suc i + length ks) → port_of (if b then way_from torus (suc i) ks xs ys else (if c then Plus i else Minus i)) < 1 + 2 * (i + suc (length ks))
    go true c rest = omega (arith, rest)
    go false true rest = omega arith
    go false false rest = omega arith

pub route-below : (p : Plan) (n to : ℕ) → 2 ^ route p n to < 2 ^ ports p
unfolding route
route-below p n to = pow-less (route p n to) (ports p) (let less = way-below p.torus 0 p.dims (coords_in p.dims n) (coords_in p.dims to) in omega (arith, less))

module _ (lines : List Line) where
  -- an input is read by any assign of a wire
  pub input-may : (t m : Name) {k h s : ℕ} → Wire lines t k s → Given lines m h → 0 < s → May lines t m
  input-may t m {k} {h} {s} x y less = by-rank lines t m s 0 x y.at_rank less

  module _ (P : Name → Type 0) where
    -- whose slot it is
    pub owned-is : (a : SlotNames) (h k : ℕ) (slots : List ℕ) (e : ℕ) → Net lines Register a.count h → P a.count → k + length slots ≤ 2 ^ (h + 1) → Is lines P (owned a h k slots e) 1 (length slots + 2)
    owned-is a h k [] e x may fits = deeper lines P 2 (omega arith) (number-is lines P 1 0 (omega arith) (omega arith) (omega arith))
    owned-is a h k (d ∷ slots) e x may fits = go (d == e) (owned-is a h (k + 1) slots e x may (omega arith))
      where
        go : (b : Bool) → Is lines P (owned a h (k + 1) slots e) 1 (length slots + 2) → Is lines P (if b then two Or (two Equal (net a.count) (in_bits (h + 1) k)) (owned a h (k + 1) slots e) else owned a h (k + 1) slots e) 1 (suc (length slots) + 2)
        go true rest =
            deeper lines P (suc (length slots) + 2) (omega arith)
            (two-is lines P Or (deeper lines P (length slots + 2) (omega arith) (two-is lines P Equal (net-is lines P x may) (number-is lines P (h + 1) k (omega arith) (let few = x.few in omega (arith, few)) (omega arith)))) rest)
        go false rest = deeper lines P (suc (length slots) + 2) (omega arith) rest

    -- a table by the bits of a net
    pub table-is : {m : Name} {h : ℕ} (width : ℕ) (f : ℕ → ℕ) (i k : ℕ) → Net lines Inner m h → P m → 1 ≤ width → width ≤ 64 → ((x : ℕ) → f x < 2 ^ width) → i + k ≤ h + 1 → Is lines P (table m width f i k) width (k + 1)
    table-is width f i zero x may some few small fits = deeper lines P (0 + 1) (omega arith) (number-is lines P width (f 0) some few (small 0))
    table-is {m} {h} width f i (suc k) x may some few small fits =
        go (are_same (constant_of (table m width (λ x. f (2 * x + 1)) (i + 1) k)) (constant_of (table m width (λ x. f (2 * x)) (i + 1) k)))
        (table-is width (λ x. f (2 * x + 1)) (i + 1) k x may some few (λ x. small (2 * x + 1)) (omega arith))
        (table-is width (λ x. f (2 * x)) (i + 1) k x may some few (λ x. small (2 * x)) (omega arith))
      where
        go : (b : Bool) → Is lines P (table m width (λ x. f (2 * x + 1)) (i + 1) k) width (k + 1) → Is lines P (table m width (λ x. f (2 * x)) (i + 1) k) width (k + 1)
            → Is lines P (if b then table m width (λ x. f (2 * x)) (i + 1) k else branch m i (table m width (λ x. f (2 * x + 1)) (i + 1) k) (table m width (λ x. f (2 * x)) (i + 1) k)) width (suc k + 1)
        go true a b = deeper lines P (suc k + 1) (omega arith) b
        go false a b = deeper lines P (suc k + 1) (omega arith) (choose-is lines P (deeper lines P (k + 1) (omega arith) (bit-is lines P i x may (omega arith))) a b)

    -- the word of the link's owner
    pub owners-is : (a : LinkNames) (h domains : ℕ) → h < 64 → ((e : ℕ) → e < domains → Net lines Inner (a.owns e) 0 × P (a.owns e) × Net lines Inner (a.word e) h × P (a.word e)) → Is lines P (owners_word a h domains) (h + 1) (domains + 1)
    owners-is a h zero few facts = deeper lines P (0 + 1) (omega arith) (number-is lines P (h + 1) 0 (omega arith) (omega arith) (pow-pos (h + 1)))
    owners-is a h (suc e) few facts =
        let here = facts e (omega arith) in
        deeper lines P (suc e + 1) (omega arith)
        (choose-is lines P (deeper lines P (e + 1) (omega arith) (net-is lines P here.0 here.1)) (deeper lines P (e + 1) (omega arith) (net-is lines P here.2 here.3)) (owners-is a h e few (λ e less. facts e (omega arith))))

module _ (p : Plan) (n : ℕ) (sound : IsSound p) (inside : n < tiles p) where
  abbrev lines : List Line
  lines = ls p n sound inside

  slots-fit : length p.slots ≤ 2 ^ (slot_high p + 1)
  slots-fit = (sizes-meet p sound).slots

  pub slots-good : GoodGroups lines (slot_groups p n leaf_names (slot_high p))
  slots-good =
      groups-each lines (length p.slots) (λ k below. groups-if lines (uses_slot p n k)
      (λ used. let c = counter p n sound inside k below used in
      group-next lines (reg-next lines c (good-nil lines))
      (nets-each lines (length p.domains) (λ e less. let t = owns p n sound inside k below used e less in
      net-next lines t (owned-is lines (May lines ((leaf_names.slot k).owns e)) (leaf_names.slot k) (slot_high p) 0 p.slots e c (by-register lines ((leaf_names.slot k).owns e) c) (let fits = slots-fit in omega (arith, fits)))
      (let most = sound.slot_count.1 in omega (arith, most)) (nets-nil lines)))
      (clocked-next lines c
      (choose-is lines (Any lines) (two-is lines (Any lines) Equal (net-is lines (Any lines) c tt) (number-is lines (Any lines) (slot_high p + 1) (length p.slots - 1) (omega arith) (let few = few-slot p n sound inside k below used in omega (arith, few)) (let fits = slots-fit in omega (arith, fits, below))))
      (deeper lines (Any lines) 2 (omega arith) (number-is lines (Any lines) (slot_high p + 1) 0 (omega arith) (let few = few-slot p n sound inside k below used in omega (arith, few)) (pow-pos (slot_high p + 1))))
      (two-is lines (Any lines) Add (net-is lines (Any lines) c tt) (number-is lines (Any lines) (slot_high p + 1) 1 (omega arith) (let few = few-slot p n sound inside k below used in omega (arith, few)) (two-more (slot_high p)))))
      (omega arith) refl (let fits = slots-fit in omega (arith, fits, below)) (good-nil lines))
      (no-groups lines))
      (λ idle. no-groups lines))

  -- ---- links

  some-dest : 1 ≤ dest_bits p
  some-dest = bits-some (tiles p)

  module _ (q : ℕ) (link : HasLink p n q) where
    goal-is : Is lines (May lines (net_names.goal q)) (part ((port_names n).link_in q) (31 + dest_bits p) 32) (dest_bits p - 1 + 1) 1
    goal-is =
        let some = some-dest in
        part-is lines (May lines (net_names.goal q)) (31 + dest_bits p) 32 (dest_bits p - 1 + 1) (link-in p n sound inside q link).its
        (input-may lines (net_names.goal q) ((port_names n).link_in q) (goal p n sound inside q link) (link-in p n sound inside q link) (omega arith)) (omega (arith, some)) (omega arith) (omega (arith, some))

    stored-is : Is lines (May lines (net_names.stored q)) (cat (parts (route_bits p n (net_names.goal q) (dest_bits p)) (parts (part ((port_names n).link_in q) (33 + dest_bits p) 0) no_parts))) ((leaf_sizes p).wh + 1) (dest_bits p + 2)
    stored-is =
        let some = some-dest in
        let few = few-dests p n sound inside in
        let ports_few = few-ports p sound in
        let t = stored p n sound inside q link in
        let g = goal p n sound inside q link in
        let l = link-in p n sound inside q link in
        let P = May lines (net_names.stored q) in
        wide-as lines P (let e : ports p + (34 + dest_bits p + 0) ≡ (leaf_sizes p).wh + 1 = omega arith in e)
        (deeper lines P (dest_bits p + 2) (omega arith)
        (cat-is lines P (next-are lines P
        (table-is lines P (ports p) (λ to. 2 ^ route p n to) 0 (dest_bits p) g.its (by-rank lines (net_names.stored q) (net_names.goal q) (2048 * (1536 + q) + 1 + 1) (2048 * (1536 + q) + 0 + 1) t g.at_rank (omega arith)) (omega arith) (omega (arith, ports_few)) (λ to. route-below p n to) (omega (arith, some)))
        (next-are lines P (deeper lines P (dest_bits p + 1) (omega arith) (part-is lines P (33 + dest_bits p) 0 (34 + dest_bits p) l.its (input-may lines (net_names.stored q) ((port_names n).link_in q) t l (omega arith)) (omega arith) (omega arith) (omega arith)))
        (none-are lines P (dest_bits p + 1)))) (omega arith) (omega (arith, few, ports_few))))

    row-zero : Is lines (Any lines) (owners_word (link_names p n leaf_names net_names q) (channel_bits p + flit_bits p) (length p.domains)) (channel_bits p + flit_bits p + 1) (length p.domains + 1)
    row-zero =
        let some = sound.slot_count.0 in
        owners-is lines (Any lines) (link_names p n leaf_names net_names q) (channel_bits p + flit_bits p) (length p.domains) (few-word-bits p n sound inside)
        (λ e less. ((owns p n sound inside (leaving_slot p n q) (slot-below p n (pos 0) (way_of q) some) (uses-leaving p n q link) e less).its, tt, (word p n sound inside e less q link).its, tt))

    link-moves : Good lines (link_group (link_names p n leaf_names net_names q) (channel_bits p + flit_bits p) (length p.domains) (p.stages - 1)).moves
    link-moves =
        clocked-next lines (row p n sound inside q link 0 (omega arith)) row-zero (let most = sound.domains.1 in omega (arith, most)) refl (pow-pos (channel_bits p + flit_bits p + 1))
        (good-each lines (p.stages - 1) (λ i less. clocked-next lines (row p n sound inside q link (i + 1) (omega arith)) (net-is lines (Any lines) (row p n sound inside q link i (omega arith)) tt) (omega arith) refl (pow-pos (channel_bits p + flit_bits p + 1)) (good-nil lines)))

  pub shared-good : GoodGroups lines (shared_groups p n leaf_names net_names (port_names n) (leaf_sizes p) (dest_bits p) (flit_bits p) (channel_bits p))
  shared-good =
      groups-each lines (ports p) (λ q less. groups-if lines (is_some (neighbour p n q))
      (λ there. let link : HasLink p n q = (less, there) in
      group-next lines (wire-next lines (stored p n sound inside q link) (good-nil lines))
      (net-next lines (goal p n sound inside q link) (goal-is q link) (omega arith) (assign-next lines (stored p n sound inside q link) (stored-is q link) (let few = few-dests p n sound inside in omega (arith, few)) (nets-nil lines)))
      (good-nil lines)
      (group-next lines (good-each lines (p.stages - 1 + 1) (λ i below. reg-next lines (row p n sound inside q link i below) (good-nil lines))) (nets-nil lines) (link-moves q link) (no-groups lines)))
      (λ absent. no-groups lines))
