-- The rows of a phase hold labels: at reset, of the top's nets, handed over, and joined.
use Rattle.std.proofs.Common.{◌≡◌, ℕ, zero, suc, ◌+◌, ◌<◌, Bool, true, false, List, [], ◌∷◌, ◌++◌, length, map, refl, sym, ◌∙◌, ap, subst, bytes_eq, arith}
use Rattle.std.specs.Prelude.{Option, Some, None, find, get_or, slice_get, codes, if◌then◌else◌}
use Rattle.std.specs.List.{AllByRecursion}
use Rattle.std.proofs.lemmas.Bool.{both_ways, false≢true}
use Rattle.std.proofs.lemmas.Option.{none-some}
use Rattle.std.proofs.Math.Seq.{take-length}
use Rattle.vl_tree.specs.declared.tree.Port.{Port}
use Rattle.vl_tree.specs.declared.tree.Join.{Join}
use Rattle.vl_tree.specs.declared.tree.TopItem.{TopItem}
use Rattle.vl_tree.specs.Values.{Name, Leaf, Design}
use Rattle.vl_tree.specs.Read.{read_design}
use Rattle.vl_model.specs.declared.kind.Kind.{Kind}
use Rattle.vl_model.specs.declared.kind.Kind.TheVariants.{Input, Output, Inner, Register, Memory, Child}
use Rattle.vl_model.specs.Lines.{Line, heading, port, item, joint, leaf_lines, top_lines, lookup, Declared, kind_passes, way_of, is_net, is_input, is_register, is_memory, net_bits, word_bits, port_named, widths}
use Rattle.vl_model.specs.Rules.{IsSound, is_kind, name_twice, wants_driver, drivers}
use Rattle.vl_model.specs.Leaf.{leaf_widths}
use Rattle.vl_model.specs.Whole.{EachInstance}
use Rattle.vl_model.proofs.Passed.{top-sound, all-map}
use Rattle.vl_model.proofs.Ordered.{kind-of}
use Rattle.vl_model.proofs.Tops.{Each, each-map, each-both}
use Rattle.vl_model.proofs.One.{known, one-driver}
use Rattle.vl_rules.specs.declared.names.Names.{Names}
use Rattle.vl_rules.specs.declared.scope.Entry.{Entry}
use Rattle.vl_rules.specs.Names as tables
use Rattle.vl_rules.specs.Scope.{before, declared_as, Declares}
use Rattle.vl_run.specs.Emit.{place_in}
use Rattle.vl_run.specs.Places.{ArePlaces}
use Rattle.vl_run.proofs.Placed.{places-of, widths-of}
use Rattle.vl_run.proofs.Inputs.{are-first}
use Rattle.label_model.specs.Labels.{only, Label, from, join, IsBelow, Labels}
use Rattle.label_model.specs.Lawful.{IsKeptBelow}
use Rattle.label_model.specs.Phase.{labelled, fed_labels, carried, begun, nothing, top_labels, phase_labels, next_labels, first_labels}
use Rattle.label_model.specs.Rounds.{join_all}
use Rattle.label_model.proofs.Below.{join-right}
use Rattle.label_model.proofs.Existence.{at-name}
use Rattle.label_model.proofs.Stable.{first-here, next-here}
use Rattle.label_audit.specs.declared.part.Part.{Part}
use Rattle.label_audit.specs.declared.phase.Shape.{Shape}
use Rattle.label_audit.specs.Rows.{first_bits, bit_in, joined_row, joined_rows, firsts, rows_by, entry_bits, bits_in}
use Rattle.label_audit.specs.Instances.{no_rows, first_rows, next_rows}
use Rattle.label_audit.specs.Audited.{port_domain}
use Rattle.label_audit.specs.Whole.{leaf_of, place_of, IsPart, AllAt, AreParts, IsShape, domain_at, joined_in, first_at, first_in, input_rows, tops_in, next_at, next_in, Holds, Stand}
use Rattle.label_audit.proofs.Computed.{length-first, bit-first, first-same}
use Rattle.label_audit.proofs.OneLeaf.{Facts, facts, length-none, first-holds, next-holds}
use Rattle.label_audit.proofs.Whole.{length-firsts, firsts-at, IsTail, at-map, at-pair, at-each, Standing, part-places, tops-hold}
use Rattle.label_audit.proofs.TopPorts.{ports-are, Apart, are-apart, top-port, owner-at, length-inputs, input-row}

-- ---- what a table declares

-- the bits of a name that is declared
pub declared-bits : (t : Names Entry) (lines : List Line) → Declares t lines → (n : Name) (x : Declared) → lookup lines n ≡ Some x → bits_in t n ≡ x.high + 1
declared-bits t lines d n x e = go (tables.found t n) refl
  where
    here : before (length lines) n (tables.found t n) ≡ Some x
    here = d (length lines) n ∙ ap (λ z. lookup z n) (take-length lines) ∙ e

    pick : (y : Entry) (b : Bool) → (if b then Some (declared_as n y) else None) ≡ Some x → entry_bits (Some y) ≡ x.high + 1
    pick y true f = let one : declared_as n y ≡ x = cc in ap (λ (z : Declared). z.high + 1) one
    pick y false f = absurd (none-some x f)

    go : (o : Option Entry) → tables.found t n ≡ o → bits_in t n ≡ x.high + 1
    go None is = absurd (none-some x (sym (ap (before (length lines) n) is) ∙ here))
    go (Some y) is = ap entry_bits is ∙ pick y _ (sym (ap (before (length lines) n) is) ∙ here)

register-bits : (t : Names Entry) (lines : List Line) → Declares t lines → (n : Name) → is_kind is_register lines n ≡ true → bits_in t n ≡ (widths lines).net n
register-bits t lines d n k =
    let what = kind-of is_register lines n k in
    declared-bits t lines d n what.0 what.1 ∙ sym (ap net_bits what.1 ∙ ap (λ b. if b then what.0.high + 1 else 0) (net what.0.kind what.2))
  where
    net : (c : Kind) → is_register c ≡ true → is_net c ≡ true
    net Input e = refl
    net Output e = refl
    net Inner e = refl
    net Register e = refl
    net Memory e = e
    net Child e = e

memory-bits : (t : Names Entry) (lines : List Line) → Declares t lines → (n : Name) → is_kind is_memory lines n ≡ true → bits_in t n ≡ (widths lines).word n
memory-bits t lines d n k = let what = kind-of is_memory lines n k in declared-bits t lines d n what.0 what.1 ∙ sym (ap word_bits what.1 ∙ ap (λ b. if b then what.0.high + 1 else 0) what.2)

-- ---- on lists

get-within : {A : Type 0} (xs : List A) (i : ℕ) (x : A) → slice_get xs i ≡ Some x → i < length xs
get-within [] i x e = absurd (none-some x e)
get-within (y ∷ xs) zero x e = omega arith
get-within (y ∷ xs) (suc i) x e = let rest = get-within xs i x e in omega (arith, rest)

-- what is no empty list stands in the list
rows-within : (xs : List (List (List Label))) (i k : ℕ) → length (get_or xs i []) ≡ suc k → i < length xs
rows-within [] i k e = absurd (omega (arith, e))
rows-within (x ∷ xs) zero k e = omega arith
rows-within (x ∷ xs) (suc i) k e = let rest = rows-within xs i k e in omega (arith, rest)

-- ---- joined rows

joined-first : (f g : ℕ → Label) (w : ℕ) → joined_row (first_bits f w) (first_bits g w) ≡ first_bits (λ i. join (f i) (g i)) w
joined-first f g w =
    ap (first_bits (λ i. join (bit_in (first_bits f w) i) (bit_in (first_bits g w) i))) (length-first f w)
    ∙ first-same (λ i. join (bit_in (first_bits f w) i) (bit_in (first_bits g w) i)) (λ i. join (f i) (g i)) w (λ i lt. ap (λ x. join x (bit_in (first_bits g w) i)) (bit-first f w i lt) ∙ ap (join (f i)) (bit-first g w i lt))

joined-hold : (l : Leaf) (s : Name → ℕ) → ArePlaces (leaf_lines l) s → (xs ys : List (List Label)) (a b : Labels) → Holds l s xs a → Holds l s ys b → Holds l s (joined_rows xs ys) (join_all a b)
joined-hold l s places xs ys a b h k = record {
  long = length-firsts (λ i. joined_row (get_or xs i []) (get_or ys i [])) (length xs) ∙ h.long;
  registers = λ n e. row is_register n e (a.net n) (b.net n) ((leaf_widths l).net n) (h.registers n e) (k.registers n e);
  memories = λ n e. row is_memory n e (a.word n) (b.word n) ((leaf_widths l).word n) (h.memories n e) (k.memories n e);
}
  where
    row : (test : Kind → Bool) (n : Name) → is_kind test (leaf_lines l) n ≡ true → (f g : ℕ → Label) (w : ℕ) → rows_by s xs n ≡ first_bits f w → rows_by s ys n ≡ first_bits g w → rows_by s (joined_rows xs ys) n ≡ first_bits (λ i. join (f i) (g i)) w
    row test n e f g w p q =
        let what = kind-of test (leaf_lines l) n e in
        let low = places.below n what.0 what.1 in
        let long = h.long in
        firsts-at (λ i. joined_row (get_or xs i []) (get_or ys i [])) (length xs) (s n) [] (omega (arith, low, long)) ∙ ap (λ z. joined_row z (rows_by s ys n)) p ∙ ap (joined_row (first_bits f w)) q ∙ joined-first f g w

-- where joining changes nothing, the second is below the first
still-below : (f g : ℕ → Label) (w : ℕ) → first_bits (λ i. join (f i) (g i)) w ≡ first_bits f w → (i : ℕ) → i < w → IsBelow (g i) (f i)
still-below f g w same i lt =
    subst (IsBelow (g i)) (sym (bit-first (λ i. join (f i) (g i)) w i lt) ∙ ap (λ xs. bit_in xs i) same ∙ bit-first f w i lt) (join-right (f i) (g i))

-- ---- a design

module _ (s : Shape) (shape : IsShape s) where
  abbrev d : Design
  d = read_design s.design.now

  abbrev owner : Name → ℕ
  owner = port_domain s.plan.now

  abbrev all : List Line
  all = top_lines d.top

  abbrev t : Name → ℕ
  t = place_in s.declared.now

  abbrev parts : List Part
  parts = s.parts.now

  top-places : ArePlaces all t
  top-places = places-of s.declared.now all shape.declared

  whole-tail : IsTail parts 0 parts
  whole-tail k = let e : 0 + k ≡ k = omega arith in ap (slice_get parts) e

  -- ---- reset

  abbrev Resets : Leaf → Name → List Join → Type 0
  Resets l n js = Facts all l n js × (first_labels d n ≡ begun l.items nothing)

  resets : EachInstance d Resets
  resets = each-both d.leaves (Facts all) (λ l n js. first_labels d n ≡ begun l.items nothing) Resets (λ l n js a b. (a, b)) d.top.items (facts d shape.sound) (first-here d shape.sound)

  pub first-stands : Stand s (first_labels d) (first_in s)
  first-stands =
      at-map d.leaves parts Resets (λ l n js p i. IsPart l js p) (λ l n js p i. Holds l (place_of p) (get_or (first_in s) i []) (first_labels d n)) here 0 d.top.items resets parts whole-tail shape.parts
    where
      rows-are : (p : Part) (i : ℕ) → slice_get parts i ≡ Some p → get_or (first_in s) i [] ≡ first_rows (place_of p) (bits_in p.leaf.declared.now) (leaf_of p)
      rows-are p i at = firsts-at (λ j. first_at (slice_get parts j)) (length parts) i [] (get-within parts i p at) ∙ ap first_at at

      of-leaf : (l : Leaf) (n : Name) (js : List Join) (p : Part) → Facts all l n js → Declares p.leaf.declared.now (leaf_lines l) → Holds l (place_of p) (first_rows (place_of p) (bits_in p.leaf.declared.now) l) (begun l.items nothing)
      of-leaf l n js p f knows =
          first-holds all l n js f (place_of p) (places-of p.leaf.declared.now (leaf_lines l) knows) (bits_in p.leaf.declared.now) (register-bits p.leaf.declared.now (leaf_lines l) knows) (memory-bits p.leaf.declared.now (leaf_lines l) knows)

      here : (l : Leaf) (n : Name) (js : List Join) (p : Part) (i : ℕ) → slice_get parts i ≡ Some p → Resets l n js → IsPart l js p → Holds l (place_of p) (get_or (first_in s) i []) (first_labels d n)
      here l n js p i at r is =
          subst (λ v. Holds l (place_of p) (get_or (first_in s) i []) v) (sym r.1)
          (subst (λ z. Holds l (place_of p) z (begun l.items nothing)) (sym (rows-are p i at ∙ ap (first_rows (place_of p) (bits_in p.leaf.declared.now)) is.0))
          (of-leaf l n js p r.0 (subst (λ z. Declares p.leaf.declared.now (leaf_lines z)) is.0 is.2)))

  -- ---- the top's nets

  ports-named : AllByRecursion (λ (q : Port). is_kind is_net all q.name ≡ true) d.top.ports
  ports-named =
      all-map (λ (p : Port). lookup all p.name ≡ Some (record { name = p.name; kind = way_of p.output; high = p.high; last = 0 })) (λ (p : Port). is_kind is_net all p.name ≡ true)
      (λ p f. ap (kind_passes is_net) f ∙ way p.output) d.top.ports
      (are-first d.leaves all (heading (codes "noc") ∷ []) d.top.ports (map joint d.top.items) refl (top-sound d shape.sound.rules).once.1).0
    where
      way : (b : Bool) → is_net (way_of b) ≡ true
      way true = refl
      way false = refl

  -- what no instance drives is an input
  undriven-input : (n : Name) → is_kind is_net all n ≡ true → drivers d.leaves (map joint d.top.items) n ≡ 0 → is_kind is_input all n ≡ true
  undriven-input n k zero_drivers =
      let what = kind-of is_net all n k in
      ap (kind_passes is_input) what.1 ∙ kinds what.0.kind what.2 (λ w. (let one = one-driver d shape.sound n what.0 what.1 w in omega (arith, one, zero_drivers)))
    where
      kinds : (c : Kind) → is_net c ≡ true → (wants_driver c ≡ true → ⊥) → is_input c ≡ true
      kinds Input a b = refl
      kinds Output a b = absurd (b refl)
      kinds Inner a b = absurd (b refl)
      kinds Register a b = absurd (b refl)
      kinds Memory a b = absurd (b refl)
      kinds Child a b = absurd (false≢true a)

  -- an input of the top is a port of it
  top-input : (n : Name) → is_kind is_input all n ≡ true → (q : Port) × (port_named d.top.ports n ≡ Some q) × ((widths all).net n ≡ q.high + 1) × (n ≡ q.name)
  top-input n k =
      let what = kind-of is_input all n k in
      let found = top-port d.top.ports d.top.items n what.0 what.1 what.2 in
      (found.0, found.1, ap net_bits what.1 ∙ ap (λ b. if b then what.0.high + 1 else 0) (net what.0.kind what.2) ∙ ap (λ z. z + 1) found.2, found.3)
    where
      net : (c : Kind) → is_input c ≡ true → is_net c ≡ true
      net Input e = refl
      net Output e = absurd (false≢true e)
      net Inner e = absurd (false≢true e)
      net Register e = absurd (false≢true e)
      net Memory e = absurd (false≢true e)
      net Child e = absurd (false≢true e)

  abbrev base : List (List Label)
  base = input_rows t s.plan.now.hosts d.top.ports 0 (no_rows (length all))

  base-holds : (n : Name) → is_kind is_net all n ≡ true → drivers d.leaves (map joint d.top.items) n ≡ 0 → rows_by t base n ≡ first_bits (λ i. from (only (owner n))) ((widths all).net n)
  base-holds n k none =
      let port-at = top-input n (undriven-input n k none) in
      let q = port-at.0 in
      let row = input-row all t top-places s.plan.now.hosts d.top.ports ports-named 0 (no_rows (length all)) (length-none (length all)) n k q port-at.1 in
      let place : 0 + row.0 ≡ row.0 = omega arith in
      let whole = ports-are s.plan.now d shape.ports in
      let apart = are-apart d.leaves all (heading (codes "noc") ∷ []) d.top.ports (map joint d.top.items) (top-sound d shape.sound.rules).once.1 in
      let mine = owner-at s.plan.now.hosts row.0 q (subst (λ z. slice_get z row.0 ≡ Some q) whole row.1) (subst Apart whole apart) in
      row.2 ∙ ap (λ e. first_bits (λ i. from (only e)) (q.high + 1)) (ap (domain_at s.plan.now.hosts) place ∙ mine ∙ ap owner (sym port-at.3)) ∙ ap (first_bits (λ i. from (only (owner n)))) (sym port-at.2)

  abbrev Placed : List (List (List Label)) → (Name → Labels) → Leaf → Name → List Join → Part → ℕ → Type 0
  Placed xs inside l n js p i = IsPart l js p × Holds l (place_of p) (get_or xs i []) (inside n)

  placed : (inside : Name → Labels) (xs : List (List (List Label))) → Stand s inside xs → AllAt d.leaves (Placed xs inside) 0 d.top.items parts
  placed inside xs h = at-pair d.leaves (λ l n js p i. IsPart l js p) (λ l n js p i. Holds l (place_of p) (get_or xs i []) (inside n)) 0 d.top.items parts shape.parts h

  pub tops-are : (inside : Name → Labels) (xs : List (List (List Label))) → Stand s inside xs → (n : Name) → is_kind is_net all n ≡ true → rows_by t (tops_in s xs) n ≡ first_bits (top_labels d owner inside n) ((widths all).net n)
  tops-are inside xs h n k =
      tops-hold d.leaves all t top-places inside xs 0 d.top.items parts
      (at-map d.leaves parts (Facts all) (Placed xs inside) (Standing d.leaves all t top-places inside xs) (λ l m js p i at f r. (f, r.0, r.1)) 0 d.top.items (facts d shape.sound) parts whole-tail (placed inside xs h))
      base (length-inputs all t top-places s.plan.now.hosts d.top.ports 0 (no_rows (length all)) ∙ length-none (length all)) n k (λ i. from (only (owner n))) (base-holds n k)

  -- ---- what is handed over

  module _ (inside : Name → Labels) (xs : List (List (List Label))) (h : Stand s inside xs) where
    abbrev T : Name → ℕ → Label
    T = top_labels d owner inside

    abbrev S : Leaf → Name → List Join → Labels
    S l n js = labelled (leaf_widths l) (fed_labels l js T (inside n)) l.items

    abbrev Hands : Leaf → Name → List Join → Type 0
    Hands l n js = Facts all l n js × (next_labels d owner inside n ≡ carried (leaf_widths l) (S l n js) l.items (S l n js))

    hands : EachInstance d Hands
    unfolding phase_labels
    hands =
        each-both d.leaves (Facts all) (λ l n js. next_labels d owner inside n ≡ carried (leaf_widths l) (S l n js) l.items (S l n js)) Hands (λ l n js a b. (a, b)) d.top.items (facts d shape.sound)
        (each-both d.leaves (λ l n js. (phase_labels d owner inside).inside n ≡ S l n js)
        (λ l n js. next_labels d owner inside n ≡ carried (leaf_widths l) ((phase_labels d owner inside).inside n) l.items ((phase_labels d owner inside).inside n))
        (λ l n js. next_labels d owner inside n ≡ carried (leaf_widths l) (S l n js) l.items (S l n js)) (λ l n js a b. b ∙ ap (λ v. carried (leaf_widths l) v l.items v) a) d.top.items
        (at-name d shape.sound owner inside) (next-here d shape.sound owner inside))

    pub next-stands : Stand s (next_labels d owner inside) (next_in s xs)
    next-stands =
        at-map d.leaves parts Hands (Placed xs inside) (λ l n js p i. Holds l (place_of p) (get_or (next_in s xs) i []) (next_labels d owner inside n)) here 0 d.top.items hands parts whole-tail (placed inside xs h)
      where
        rows-are : (p : Part) (i : ℕ) → slice_get parts i ≡ Some p → get_or (next_in s xs) i [] ≡ next_rows (place_of p) t (leaf_of p) p.joins.now (tops_in s xs) (get_or xs i [])
        rows-are p i at = firsts-at (λ j. next_at t (tops_in s xs) (slice_get parts j) (get_or xs j [])) (length parts) i [] (get-within parts i p at) ∙ ap (λ o. next_at t (tops_in s xs) o (get_or xs i [])) at

        here : (l : Leaf) (n : Name) (js : List Join) (p : Part) (i : ℕ) → slice_get parts i ≡ Some p → Hands l n js → Placed xs inside l n js p i → Holds l (place_of p) (get_or (next_in s xs) i []) (next_labels d owner inside n)
        here l n js p i at r is =
            subst (λ v. Holds l (place_of p) (get_or (next_in s xs) i []) v) (sym r.1)
            (subst (λ z. Holds l (place_of p) z (carried (leaf_widths l) (S l n js) l.items (S l n js)))
            (sym (rows-are p i at ∙ ap (λ z. next_rows (place_of p) t z p.joins.now (tops_in s xs) (get_or xs i [])) is.0.0 ∙ ap (λ z. next_rows (place_of p) t l z (tops_in s xs) (get_or xs i [])) is.0.1))
            (next-holds all l n js r.0 (place_of p) (part-places d.leaves all t top-places inside xs l js p is.0) (get_or xs i []) (inside n) is.1 t (tops_in s xs) T (tops-are inside xs h)))

  -- ---- joined phases

  module _ (a b : Name → Labels) (xs ys : List (List (List Label))) (h : Stand s a xs) (k : Stand s b ys) where
    abbrev Both : Leaf → Name → List Join → Part → ℕ → Type 0
    Both l n js p i = Placed xs a l n js p i × Holds l (place_of p) (get_or ys i []) (b n)

    both : AllAt d.leaves Both 0 d.top.items parts
    both = at-pair d.leaves (Placed xs a) (λ l n js p i. Holds l (place_of p) (get_or ys i []) (b n)) 0 d.top.items parts (placed a xs h) k

    joined-here : (l : Leaf) (n : Name) (js : List Join) (p : Part) (i : ℕ) → Both l n js p i → Holds l (place_of p) (get_or (joined_in xs ys) i []) (join_all (a n) (b n))
    joined-here l n js p i r =
        let within = rows-within xs i (length (map port l.ports ++ map item l.items)) r.0.1.long in
        subst (λ z. Holds l (place_of p) z (join_all (a n) (b n))) (sym (firsts-at (λ j. joined_rows (get_or xs j []) (get_or ys j [])) (length xs) i [] within))
        (joined-hold l (place_of p) (part-places d.leaves all t top-places a xs l js p r.0.0) (get_or xs i []) (get_or ys i []) (a n) (b n) r.0.1 r.1)

    pub joined-stand : Stand s (λ n. join_all (a n) (b n)) (joined_in xs ys)
    joined-stand = at-map d.leaves parts (Facts all) Both (λ l n js p i. Holds l (place_of p) (get_or (joined_in xs ys) i []) (join_all (a n) (b n))) (λ l n js p i at f r. joined-here l n js p i r) 0 d.top.items (facts d shape.sound) parts whole-tail both

    pub still-kept : joined_in xs ys ≡ xs → IsKeptBelow d b a
    still-kept same =
        at-each d.leaves Both (λ l n js. ((m : Name) → is_kind is_register (leaf_lines l) m ≡ true → (i : ℕ) → i < (leaf_widths l).net m → IsBelow ((b n).net m i) ((a n).net m i))
        × ((m : Name) → is_kind is_memory (leaf_lines l) m ≡ true → (i : ℕ) → i < (leaf_widths l).word m → IsBelow ((b n).word m i) ((a n).word m i)))
        (λ l n js p i r.
        let j = subst (λ z. Holds l (place_of p) (get_or z i []) (join_all (a n) (b n))) same (joined-here l n js p i r) in (
          (λ m e. still-below ((a n).net m) ((b n).net m) ((leaf_widths l).net m) (sym (j.registers m e) ∙ r.0.1.registers m e)),
          (λ m e. still-below ((a n).word m) ((b n).word m) ((leaf_widths l).word m) (sym (j.memories m e) ∙ r.0.1.memories m e)),
        )) 0 d.top.items parts both
