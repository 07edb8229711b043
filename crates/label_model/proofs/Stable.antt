-- Registers and memories, phase by phase: what is handed over is the least that is lawful, and stable rounds are the
-- least lawful labelling.
use Rattle.std.proofs.Common.{◌≡◌, ℕ, zero, suc, ◌+◌, ◌-◌, ◌%◌, ◌<◌, Bool, true, false, List, ◌∷◌, [], map, refl, sym, ◌∙◌, ap, subst, arith}
use Rattle.std.specs.Prelude.{codes, nat_lt}
use Rattle.std.specs.List.{AllByRecursion}
use Rattle.std.proofs.Math.Nat.{mod-eq_of_lt, mod_self}
use Rattle.std.proofs.lemmas.Bool.{ltb-true, ltb-false}
use Rattle.vl_tree.specs.declared.tree.Join.{Join}
use Rattle.vl_tree.specs.Values.{Name, Leaf, Design}
use Rattle.vl_model.specs.Meaning.{Widths}
use Rattle.vl_model.specs.Lines.{heading, port, joint, leaf_lines, top_lines, is_register, is_memory}
use Rattle.vl_model.specs.Rules.{IsSound, is_kind, name_twice}
use Rattle.vl_model.specs.Leaf.{leaf_widths}
use Rattle.vl_model.specs.Whole.{EachInstance}
use Rattle.vl_model.proofs.Passed.{passes-behind, top-sound, all-map}
use Rattle.vl_model.proofs.Tops.{each-map, each-both}
use Rattle.vl_model.proofs.One.{known, all-both}
use Rattle.label_model.specs.Labels.{IsBelow, Labels}
use Rattle.label_model.specs.Lawful.{LabelNets, AreLabels, IsCarried, IsBegun, IsKeptBelow, IsLawful, IsLeast}
use Rattle.label_model.specs.Phase.{carried, begun, nothing, phase_labels, next_labels, first_labels, instance_carried, instance_begun}
use Rattle.label_model.specs.Rounds.{join_all, rounds, first_round}
use Rattle.label_model.specs.Laws.{KeptIsLawful, FirstIsBelow, NextIsBelow, StableIsLeast}
use Rattle.label_model.proofs.Below.{below-itself, below-both, join-left, join-right, join-least}
use Rattle.label_model.proofs.Edges.{word-memory, ReadyLeaf, ClockedHas, StoredHas, clocked-has, stored-has}
use Rattle.label_model.proofs.Runs.{each-pair, ready}
use Rattle.label_model.proofs.Driving.{found-at}
use Rattle.label_model.proofs.Existence.{labels-exist}
use Rattle.label_model.proofs.Least.{carried-down}
use Rattle.label_model.proofs.Handing.{Carries, all-carry, is-carried, least-net, least-word, carried-up, clocked-targets, Begins, all-begin, begun-word, is-begun, least-begun-net, least-begun-word, begun-up}

-- ---- one leaf

-- the registers and memories of one leaf
abbrev KeptIn : Leaf → Labels → Labels → Type 0
KeptIn leaf a b =
    ((m : Name) → is_kind is_register (leaf_lines leaf) m ≡ true → (i : ℕ) → i < (leaf_widths leaf).net m → IsBelow (a.net m i) (b.net m i))
    × ((m : Name) → is_kind is_memory (leaf_lines leaf) m ≡ true → (i : ℕ) → i < (leaf_widths leaf).word m → IsBelow (a.word m i) (b.word m i))

module _ (leaf : Leaf) (r : ReadyLeaf leaf) where
  abbrev w : Widths
  w = leaf_widths leaf

  kept-words : (a b : Labels) → KeptIn leaf a b → (k : Name) (i : ℕ) → i < w.word k → IsBelow (a.word k i) (b.word k i)
  kept-words a b kept k i lt = kept.1 k (word-memory (leaf_lines leaf) k i lt) i lt

  kept-targets : (a b : Labels) → KeptIn leaf a b → AllByRecursion (ClockedHas (λ k. (i : ℕ) → i < w.net k → IsBelow (a.net k i) (b.net k i))) leaf.items
  kept-targets a b kept = clocked-targets (λ k. (i : ℕ) → i < w.net k → IsBelow (a.net k i) (b.net k i)) leaf.items (λ n c. kept.0 n (r.moving.clocked n c))

  edge-up : (l m n : Labels) → KeptIn leaf m n → AllByRecursion (IsCarried w l m) leaf.items → AllByRecursion (IsCarried w l n) leaf.items
  edge-up l m n kept =
      all-both (ClockedHas (λ k. (i : ℕ) → i < w.net k → IsBelow (m.net k i) (n.net k i))) (IsCarried w l m) (IsCarried w l n) (carried-up w l m n (kept-words m n kept)) leaf.items (kept-targets m n kept)

  start-up : (m n : Labels) → KeptIn leaf m n → AllByRecursion (IsBegun w m) leaf.items → AllByRecursion (IsBegun w n) leaf.items
  start-up m n kept = all-both (ClockedHas (λ k. (i : ℕ) → i < w.net k → IsBelow (m.net k i) (n.net k i))) (IsBegun w m) (IsBegun w n) (begun-up w m n (kept-words m n kept)) leaf.items (kept-targets m n kept)

  leaf-carries : (v : Labels) → AllByRecursion (IsCarried w v (carried w v leaf.items v)) leaf.items
  leaf-carries v = all-map (Carries w v (carried w v leaf.items v)) (IsCarried w v (carried w v leaf.items v)) (is-carried w v (carried w v leaf.items v)) leaf.items (all-carry w v leaf.items v r.moving.once)

  leaf-least : (v later : Labels) → AllByRecursion (IsCarried w v later) leaf.items → KeptIn leaf (carried w v leaf.items v) later
  leaf-least v later edge = (
    λ n k. clocked-has (λ n. (i : ℕ) → i < w.net n → IsBelow ((carried w v leaf.items v).net n i) (later.net n i)) leaf.items
        (all-both (Carries w v (carried w v leaf.items v)) (IsCarried w v later) (ClockedHas (λ n. (i : ℕ) → i < w.net n → IsBelow ((carried w v leaf.items v).net n i) (later.net n i)))
        (least-net w v (carried w v leaf.items v) later) leaf.items (all-carry w v leaf.items v r.moving.once) edge) n (r.moving.register n k),
    λ n k. stored-has (λ n. (i : ℕ) → i < w.word n → IsBelow ((carried w v leaf.items v).word n i) (later.word n i)) leaf.items
        (all-both (Carries w v (carried w v leaf.items v)) (IsCarried w v later) (StoredHas (λ n. (i : ℕ) → i < w.word n → IsBelow ((carried w v leaf.items v).word n i) (later.word n i)))
        (least-word w v (carried w v leaf.items v) later) leaf.items (all-carry w v leaf.items v r.moving.once) edge) n (r.moving.memory n k),
  )

  leaf-begins : AllByRecursion (IsBegun w (begun leaf.items nothing)) leaf.items
  leaf-begins = all-map (Begins (begun leaf.items nothing)) (IsBegun w (begun leaf.items nothing)) (is-begun w (begun leaf.items nothing) (begun-word leaf.items nothing)) leaf.items (all-begin leaf.items nothing r.moving.once)

  leaf-first : (later : Labels) → AllByRecursion (IsBegun w later) leaf.items → KeptIn leaf (begun leaf.items nothing) later
  leaf-first later start = (
    λ n k. clocked-has (λ n. (i : ℕ) → i < w.net n → IsBelow ((begun leaf.items nothing).net n i) (later.net n i)) leaf.items
        (all-both (Begins (begun leaf.items nothing)) (IsBegun w later) (ClockedHas (λ n. (i : ℕ) → i < w.net n → IsBelow ((begun leaf.items nothing).net n i) (later.net n i)))
        (least-begun-net w (begun leaf.items nothing) later) leaf.items (all-begin leaf.items nothing r.moving.once) start) n (r.moving.register n k),
    λ n k. stored-has (λ n. (i : ℕ) → i < w.word n → IsBelow ((begun leaf.items nothing).word n i) (later.word n i)) leaf.items
        (all-map (IsBegun w later) (StoredHas (λ n. (i : ℕ) → i < w.word n → IsBelow ((begun leaf.items nothing).word n i) (later.word n i)))
        (least-begun-word w (begun leaf.items nothing) later (begun-word leaf.items nothing)) leaf.items start) n (r.moving.memory n k),
  )

-- ---- the whole design

module _ (d : Design) (sound : IsSound d) where
  abbrev Kept : (Name → Labels) → (Name → Labels) → Type 0
  Kept a b = EachInstance d (λ leaf k js. KeptIn leaf (a k) (b k))

  pub kept-trans : (a b c : Name → Labels) → Kept a b → Kept b c → Kept a c
  kept-trans a b c =
      each-both d.leaves (λ leaf k js. KeptIn leaf (a k) (b k)) (λ leaf k js. KeptIn leaf (b k) (c k)) (λ leaf k js. KeptIn leaf (a k) (c k))
      (λ leaf k js p q. (
        (λ m e i lt. below-both ((a k).net m i) ((b k).net m i) ((c k).net m i) (p.0 m e i lt) (q.0 m e i lt)),
        (λ m e i lt. below-both ((a k).word m i) ((b k).word m i) ((c k).word m i) (p.1 m e i lt) (q.1 m e i lt)),
      )) d.top.items

  pub kept-itself : (a : Name → Labels) → Kept a a
  kept-itself a =
      each-map d.leaves (λ leaf k js. ReadyLeaf leaf) (λ leaf k js. KeptIn leaf (a k) (a k)) (λ leaf k js r. ((λ m e i lt. below-itself ((a k).net m i)), (λ m e i lt. below-itself ((a k).word m i)))) d.top.items (ready d sound)

  pub kept-left : (a b : Name → Labels) → Kept a (λ k. join_all (a k) (b k))
  kept-left a b =
      each-map d.leaves (λ leaf k js. ReadyLeaf leaf) (λ leaf k js. KeptIn leaf (a k) (join_all (a k) (b k)))
      (λ leaf k js r. ((λ m e i lt. join-left ((a k).net m i) ((b k).net m i)), (λ m e i lt. join-left ((a k).word m i) ((b k).word m i)))) d.top.items (ready d sound)

  pub kept-right : (a b : Name → Labels) → Kept b (λ k. join_all (a k) (b k))
  kept-right a b =
      each-map d.leaves (λ leaf k js. ReadyLeaf leaf) (λ leaf k js. KeptIn leaf (b k) (join_all (a k) (b k)))
      (λ leaf k js r. ((λ m e i lt. join-right ((a k).net m i) ((b k).net m i)), (λ m e i lt. join-right ((a k).word m i) ((b k).word m i)))) d.top.items (ready d sound)

  pub kept-least : (a b c : Name → Labels) → Kept a c → Kept b c → Kept (λ k. join_all (a k) (b k)) c
  kept-least a b c =
      each-both d.leaves (λ leaf k js. KeptIn leaf (a k) (c k)) (λ leaf k js. KeptIn leaf (b k) (c k)) (λ leaf k js. KeptIn leaf (join_all (a k) (b k)) (c k))
      (λ leaf k js p q. (
        (λ m e i lt. join-least ((a k).net m i) ((b k).net m i) ((c k).net m i) (p.0 m e i lt) (q.0 m e i lt)),
        (λ m e i lt. join-least ((a k).word m i) ((b k).word m i) ((c k).word m i) (p.1 m e i lt) (q.1 m e i lt)),
      )) d.top.items

  -- ---- reset

  pub first-here : EachInstance d (λ leaf k js. first_labels d k ≡ begun leaf.items nothing)
  first-here =
      found-at d.leaves (top_lines d.top) (heading (codes "noc") ∷ map port d.top.ports) d.top.items (λ l n js. instance_begun l) (λ n. nothing) (known d sound)
      (passes-behind name_twice d.leaves (top_lines d.top) [] (heading (codes "noc") ∷ map port d.top.ports) (map joint d.top.items) (top-sound d sound.rules).once)

  pub first-starts : (later : Name → Labels) → Kept (first_labels d) later → EachInstance d (λ leaf k js. AllByRecursion (IsBegun (leaf_widths leaf) (later k)) leaf.items)
  first-starts later kept =
      each-both d.leaves (λ leaf k js. ReadyLeaf leaf × (first_labels d k ≡ begun leaf.items nothing)) (λ leaf k js. KeptIn leaf (first_labels d k) (later k)) (λ leaf k js. AllByRecursion (IsBegun (leaf_widths leaf) (later k)) leaf.items)
      (λ leaf k js r up. start-up leaf r.0 (begun leaf.items nothing) (later k) (subst (λ v. KeptIn leaf v (later k)) r.1 up) (leaf-begins leaf r.0)) d.top.items
      (each-pair d.leaves (λ leaf k js. ReadyLeaf leaf) (λ leaf k js. first_labels d k ≡ begun leaf.items nothing) d.top.items (ready d sound) first-here) kept

  pub first-least : (later : Name → Labels) → EachInstance d (λ leaf k js. AllByRecursion (IsBegun (leaf_widths leaf) (later k)) leaf.items) → Kept (first_labels d) later
  first-least later =
      each-both d.leaves (λ leaf k js. ReadyLeaf leaf × (first_labels d k ≡ begun leaf.items nothing)) (λ leaf k js. AllByRecursion (IsBegun (leaf_widths leaf) (later k)) leaf.items) (λ leaf k js. KeptIn leaf (first_labels d k) (later k))
      (λ leaf k js r start. subst (λ v. KeptIn leaf v (later k)) (sym r.1) (leaf-first leaf r.0 (later k) start)) d.top.items
      (each-pair d.leaves (λ leaf k js. ReadyLeaf leaf) (λ leaf k js. first_labels d k ≡ begun leaf.items nothing) d.top.items (ready d sound) first-here)

  module _ (owner : Name → ℕ) where
    abbrev nets : (Name → Labels) → LabelNets
    nets a = phase_labels d owner a

    right : (a : Name → Labels) → AreLabels d owner (nets a)
    right a = (labels-exist d sound owner a).0

    -- a phase keeps the labels of registers and memories
    nets-above : (a : Name → Labels) → Kept a (nets a).inside
    nets-above a =
        each-map d.leaves (λ leaf k js. ((m : Name) → is_kind is_register (leaf_lines leaf) m ≡ true → ((nets a).inside k).net m ≡ (a k).net m) × (((nets a).inside k).word ≡ (a k).word))
        (λ leaf k js. KeptIn leaf (a k) ((nets a).inside k))
        (λ leaf k js e. (
          (λ m r i lt. subst (λ f. IsBelow ((a k).net m i) (f i)) (sym (e.0 m r)) (below-itself ((a k).net m i))),
          (λ m r i lt. subst (λ f. IsBelow ((a k).word m i) (f m i)) (sym e.1) (below-itself ((a k).word m i))),
        )) d.top.items (labels-exist d sound owner a).1

    pub nets-below : (a : Name → Labels) → Kept (nets a).inside a
    nets-below a =
        each-map d.leaves (λ leaf k js. ((m : Name) → is_kind is_register (leaf_lines leaf) m ≡ true → ((nets a).inside k).net m ≡ (a k).net m) × (((nets a).inside k).word ≡ (a k).word))
        (λ leaf k js. KeptIn leaf ((nets a).inside k) (a k))
        (λ leaf k js e. (
          (λ m r i lt. subst (λ f. IsBelow (f i) ((a k).net m i)) (sym (e.0 m r)) (below-itself ((a k).net m i))),
          (λ m r i lt. subst (λ f. IsBelow (f m i) ((a k).word m i)) (sym e.1) (below-itself ((a k).word m i))),
        )) d.top.items (labels-exist d sound owner a).1

    -- ---- what is handed over

    next : (Name → Labels) → Name → Labels
    next a = next_labels d owner a

    pub next-here : (a : Name → Labels) → EachInstance d (λ leaf k js. next_labels d owner a k ≡ carried (leaf_widths leaf) ((nets a).inside k) leaf.items ((nets a).inside k))
    unfolding next_labels
    next-here a =
        found-at d.leaves (top_lines d.top) (heading (codes "noc") ∷ map port d.top.ports) d.top.items (λ l n js. instance_carried l ((nets a).inside n)) a (known d sound)
        (passes-behind name_twice d.leaves (top_lines d.top) [] (heading (codes "noc") ∷ map port d.top.ports) (map joint d.top.items) (top-sound d sound.rules).once)

    abbrev Edge : (Name → Labels) → (Name → Labels) → Type 0
    Edge l later = EachInstance d (λ leaf k js. AllByRecursion (IsCarried (leaf_widths leaf) (l k) (later k)) leaf.items)

    abbrev Handed : (Name → Labels) → Leaf → Name → List Join → Type 0
    Handed a leaf k js = ReadyLeaf leaf × (next_labels d owner a k ≡ carried (leaf_widths leaf) ((nets a).inside k) leaf.items ((nets a).inside k))

    handed : (a : Name → Labels) → EachInstance d (Handed a)
    handed a =
        each-pair d.leaves (λ leaf k js. ReadyLeaf leaf) (λ leaf k js. next_labels d owner a k ≡ carried (leaf_widths leaf) ((nets a).inside k) leaf.items ((nets a).inside k)) d.top.items (ready d sound) (next-here a)

    next-edge : (a later : Name → Labels) → Kept (next_labels d owner a) later → Edge (nets a).inside later
    next-edge a later =
        each-both d.leaves (Handed a) (λ leaf k js. KeptIn leaf (next_labels d owner a k) (later k)) (λ leaf k js. AllByRecursion (IsCarried (leaf_widths leaf) ((nets a).inside k) (later k)) leaf.items)
        (λ leaf k js r up. edge-up leaf r.0 ((nets a).inside k) (carried (leaf_widths leaf) ((nets a).inside k) leaf.items ((nets a).inside k)) (later k) (subst (λ v. KeptIn leaf v (later k)) r.1 up) (leaf-carries leaf r.0 ((nets a).inside k)))
        d.top.items (handed a)

    next-least : (a later : Name → Labels) → Edge (nets a).inside later → Kept (next_labels d owner a) later
    next-least a later =
        each-both d.leaves (Handed a) (λ leaf k js. AllByRecursion (IsCarried (leaf_widths leaf) ((nets a).inside k) (later k)) leaf.items) (λ leaf k js. KeptIn leaf (next_labels d owner a k) (later k))
        (λ leaf k js r edge. subst (λ v. KeptIn leaf v (later k)) (sym r.1) (leaf-least leaf r.0 ((nets a).inside k) (later k) edge)) d.top.items (handed a)

    -- what is below hands over what is below
    next-rises : (a b : Name → Labels) → Kept a b → Kept (next_labels d owner a) (next_labels d owner b)
    next-rises a b low =
        next-least a (next_labels d owner b)
        (carried-down d sound owner (nets a) (nets b) (right a) (right b) (kept-trans (nets a).inside a (nets b).inside (nets-below a) (kept-trans a b (nets b).inside low (nets-above b))) (next_labels d owner b)
        (next-edge b (next_labels d owner b) (kept-itself (next_labels d owner b))))

pub kept-is-lawful : KeptIsLawful
kept-is-lawful d sound owner L kept start edges = record {
  right = λ f lt. right d sound owner (kept f);
  starts = first-starts d sound (phase_labels d owner (kept 0)).inside (kept-trans d sound (first_labels d) (kept 0) (phase_labels d owner (kept 0)).inside start (nets-above d sound owner (kept 0)));
  edges = λ f lt. next-edge d sound owner (kept f) (phase_labels d owner (kept ((f + 1) % L))).inside
      (kept-trans d sound (next_labels d owner (kept f)) (kept ((f + 1) % L)) (phase_labels d owner (kept ((f + 1) % L))).inside (edges f lt) (nets-above d sound owner (kept ((f + 1) % L))));
}

pub first-is-below : FirstIsBelow
first-is-below d sound owner L labels lawful = first-least d sound (labels 0).inside lawful.starts

pub next-is-below : NextIsBelow
next-is-below d sound owner L labels lawful f lt inside low =
    next-least d sound owner inside (labels ((f + 1) % L)).inside
    (carried-down d sound owner (phase_labels d owner inside) (labels f) (right d sound owner inside) (lawful.right f lt) (kept-trans d sound (phase_labels d owner inside).inside inside (labels f).inside (nets-below d sound owner inside) low)
    (labels ((f + 1) % L)).inside (lawful.edges f lt))

-- ---- rounds

module _ (d : Design) (sound : IsSound d) (owner : Name → ℕ) (L : ℕ) (some : 0 < L) where
  abbrev At : ℕ → ℕ → Name → Labels
  At k f = rounds d owner L k f

  wraps : (L - 1 + 1) % L ≡ 0
  wraps = let last : L - 1 + 1 ≡ L = omega (arith, some) in ap (λ z. z % L) last ∙ mod_self L

  steps : (f : ℕ) → suc f < L → (f + 1) % L ≡ suc f
  steps f lt = let more : f + 1 ≡ suc f = omega arith in ap (λ z. z % L) more ∙ mod-eq_of_lt lt

  -- a round only raises labels
  rounds-rise : (k f : ℕ) → IsKeptBelow d (At k f) (At (suc k) f)
  rounds-rise k zero = kept-left d sound (At k 0) (next_labels d owner (At k (L - 1)))
  rounds-rise k (suc f) = kept-left d sound (At k (suc f)) (next_labels d owner (At (suc k) f))

  -- and stays below every lawful labelling
  module _ (labels : ℕ → LabelNets) (lawful : IsLawful d owner L labels) where
    handed-on : (f : ℕ) → suc f < L → (a : Name → Labels) → IsKeptBelow d a (labels f).inside → IsKeptBelow d (next_labels d owner a) (labels (suc f)).inside
    handed-on f lt a low = subst (λ z. IsKeptBelow d (next_labels d owner a) (labels z).inside) (steps f lt) (next-is-below d sound owner L labels lawful f (omega (arith, lt)) a low)

    first-below : (f : ℕ) → f < L → IsKeptBelow d (first_round d owner f) (labels f).inside
    first-below zero lt = first-is-below d sound owner L labels lawful
    first-below (suc f) lt = handed-on f lt (first_round d owner f) (first-below f (omega (arith, lt)))

    round-below : (k : ℕ) → ((f : ℕ) → f < L → IsKeptBelow d (At k f) (labels f).inside) → (f : ℕ) → f < L → IsKeptBelow d (At (suc k) f) (labels f).inside
    round-below k before zero lt =
        kept-least d sound (At k 0) (next_labels d owner (At k (L - 1))) (labels 0).inside (before 0 lt)
        (subst (λ z. IsKeptBelow d (next_labels d owner (At k (L - 1))) (labels z).inside) wraps
        (next-is-below d sound owner L labels lawful (L - 1) (omega (arith, some)) (At k (L - 1)) (before (L - 1) (omega (arith, some)))))
    round-below k before (suc f) lt =
        kept-least d sound (At k (suc f)) (next_labels d owner (At (suc k) f)) (labels (suc f)).inside (before (suc f) lt)
        (handed-on f lt (At (suc k) f) (round-below k before f (omega (arith, lt))))

    rounds-below : (k f : ℕ) → f < L → IsKeptBelow d (At k f) (labels f).inside
    rounds-below zero = first-below
    rounds-below (suc k) = round-below k (rounds-below k)

  first-rises : (k : ℕ) → IsKeptBelow d (first_labels d) (At k 0)
  first-rises zero = kept-itself d sound (first_labels d)
  first-rises (suc k) = kept-trans d sound (first_labels d) (At k 0) (At (suc k) 0) (first-rises k) (rounds-rise k 0)

  module _ (k : ℕ) (stable : (f : ℕ) → f < L → IsKeptBelow d (At (suc k) f) (At k f)) where
    inner : (f : ℕ) → suc f < L → IsKeptBelow d (next_labels d owner (At k f)) (At k (suc f))
    inner f lt =
        kept-trans d sound (next_labels d owner (At k f)) (next_labels d owner (At (suc k) f)) (At k (suc f)) (next-rises d sound owner (At k f) (At (suc k) f) (rounds-rise k f))
        (kept-trans d sound (next_labels d owner (At (suc k) f)) (At (suc k) (suc f)) (At k (suc f)) (kept-right d sound (At k (suc f)) (next_labels d owner (At (suc k) f))) (stable (suc f) lt))

    last : IsKeptBelow d (next_labels d owner (At k (L - 1))) (At k 0)
    last = kept-trans d sound (next_labels d owner (At k (L - 1))) (At (suc k) 0) (At k 0) (kept-right d sound (At k 0) (next_labels d owner (At k (L - 1)))) (stable 0 some)

    hands-over : (f : ℕ) → f < L → IsKeptBelow d (next_labels d owner (At k f)) (At k ((f + 1) % L))
    hands-over f lt = go (nat_lt (suc f) L) refl
      where
        go : (b : Bool) → nat_lt (suc f) L ≡ b → IsKeptBelow d (next_labels d owner (At k f)) (At k ((f + 1) % L))
        go true is = let less = ltb-true (suc f) L is in subst (λ z. IsKeptBelow d (next_labels d owner (At k f)) (At k z)) (sym (steps f less)) (inner f less)
        go false is =
            let more = ltb-false (suc f) L is in
            let here : L - 1 ≡ f = omega (arith, more, lt) in
            subst (λ g. IsKeptBelow d (next_labels d owner (At k g)) (At k ((g + 1) % L))) here (subst (λ z. IsKeptBelow d (next_labels d owner (At k (L - 1))) (At k z)) (sym wraps) last)

    stable-least : IsLeast d owner L (λ f. phase_labels d owner (At k f))
    stable-least = record {
      lawful = kept-is-lawful d sound owner L (At k) (first-rises k) hands-over;
      least = λ other lawful f lt. kept-trans d sound (phase_labels d owner (At k f)).inside (At k f) (other f).inside (nets-below d sound owner (At k f)) (rounds-below other lawful k f lt);
    }

pub stable-is-least : StableIsLeast
stable-is-least d sound owner L some k stable = stable-least d sound owner L some k stable
