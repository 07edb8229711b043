-- The labels of all nets that are computed from registers and memories are labels of the design.
use Rattle.std.proofs.Common.{◌≡◌, ℕ, Bool, true, false, List, [], ◌∷◌, map, Option, refl, sym, ◌∙◌, ap, subst, bytes_eq}
use Rattle.std.specs.Prelude.{Some, None, count_by, find, codes, if◌then◌else◌}
use Rattle.std.specs.List.{AllByRecursion}
use Rattle.std.proofs.lemmas.Bool.{and_from, both_ways, false≢true}
use Rattle.vl_tree.specs.declared.tree.Port.{Port}
use Rattle.vl_tree.specs.declared.tree.Join.{Join}
use Rattle.vl_tree.specs.Values.{Name, Item, wire, reg, mem, assign, clocked, store, Leaf, Design}
use Rattle.vl_model.specs.Meaning.{Widths}
use Rattle.vl_model.specs.declared.kind.Kind.{Kind}
use Rattle.vl_model.specs.declared.kind.Kind.TheVariants.{Input, Output, Inner, Register, Memory, Child}
use Rattle.vl_model.specs.Lines.{heading, port, joint, leaf_lines, top_lines, kind_passes, way_of, is_driven, is_input, is_register, port_named}
use Rattle.vl_model.specs.Rules.{IsSound, is_kind, name_twice, join_drives, is_output_port, drivers}
use Rattle.vl_model.specs.Leaf.{leaf_widths}
use Rattle.vl_model.specs.Whole.{EachInstance}
use Rattle.vl_model.specs.Settle.{is_input_port}
use Rattle.vl_model.proofs.Passed.{passes-behind, top-sound, all-map}
use Rattle.vl_model.proofs.Settling.{itself}
use Rattle.vl_model.proofs.Ordered.{kind-of, driven-wants}
use Rattle.vl_model.proofs.Leaves.{leaf-port}
use Rattle.vl_model.proofs.Tops.{each-map, each-both, GoodJoin, GoodInstance, one-found}
use Rattle.vl_model.proofs.One.{good, known, one-driver, drives-parts, port-join, each-pull, all-both}
use Rattle.label_model.specs.Labels.{only, Label, from, Labels}
use Rattle.label_model.specs.Lawful.{IsAssigned, IsTied, AreLabels}
use Rattle.label_model.specs.Driven.{of_net, by_instance}
use Rattle.label_model.specs.Phase.{labelled, output_labels, top_labels, fed_labels, instance_labels, phase_labels}
use Rattle.label_model.specs.Laws.{LabelsExist}
use Rattle.label_model.proofs.Driving.{net-has, net-one, found-at}
use Rattle.label_model.proofs.Labelling.{Holds, labelled-word, labelled-holds, outputs-same, labelled-keeps}

-- ---- on lists

all-pull : {X A : Type 0} (Q : X → A → Type 0) (xs : List A) → ((x : X) → AllByRecursion (Q x) xs) → AllByRecursion (λ a. (x : X) → Q x a) xs
all-pull Q [] f = tt
all-pull Q (a ∷ xs) f = ((λ x. (f x).0), all-pull Q xs (λ x. (f x).1))

-- ---- an instance that is fed by the top

not-register : (l : Leaf) (n : Name) → is_kind is_register (leaf_lines l) n ≡ true → is_input_port (port_named l.ports n) ≡ false
not-register l n k = go (port_named l.ports n) refl
  where
    way : (b : Bool) → is_register (way_of b) ≡ false
    way true = refl
    way false = refl

    go : (o : Option Port) → port_named l.ports n ≡ o → is_input_port (port_named l.ports n) ≡ false
    go None is = ap is_input_port is
    go (Some p) is = absurd (both_ways (is_kind is_register (leaf_lines l) n) (ap (kind_passes is_register) (leaf-port l n p is) ∙ way p.output) k)

register-free : (l : Leaf) (n : Name) → is_kind is_register (leaf_lines l) n ≡ true → is_kind is_driven (leaf_lines l) n ≡ false
register-free l n k = let what = kind-of is_register (leaf_lines l) n k in ap (kind_passes is_driven) what.1 ∙ kinds what.0.kind what.2
  where
    kinds : (c : Kind) → is_register c ≡ true → is_driven c ≡ false
    kinds Input e = refl
    kinds Output e = absurd (false≢true e)
    kinds Inner e = absurd (false≢true e)
    kinds Register e = refl
    kinds Memory e = refl
    kinds Child e = refl

fed-other : (l : Leaf) (js : List Join) (top : Name → ℕ → Label) (v : Labels) (m : Name) → is_input_port (port_named l.ports m) ≡ false → (fed_labels l js top v).net m ≡ v.net m
fed-other l js top v m e = rw e refl

fed-here : (l : Leaf) (js : List Join) (top : Name → ℕ → Label) (v : Labels) (m : Name) (p : Port) (j : Join) → port_named l.ports m ≡ Some p → p.output ≡ false → find (λ (k : Join). bytes_eq m k.port) js ≡ Some j
    → (fed_labels l js top v).net m ≡ top j.net
fed-here l js top v m p j named out at =
    ap (λ o. if is_input_port o then of_net (find (λ (k : Join). bytes_eq m k.port) js) top (v.net m) else v.net m) named
    ∙ ap (λ b. if (if b then false else true) then of_net (find (λ (k : Join). bytes_eq m k.port) js) top (v.net m) else v.net m) out
    ∙ ap (λ o. of_net o top (v.net m)) at

-- each assign's target has its expression's label
are-assigned : (w : Widths) (l : Labels) (is : List Item) → AllByRecursion (Holds w l) is → AllByRecursion (IsAssigned w l) is
are-assigned w l = all-map (Holds w l) (IsAssigned w l) here
  where
    here : (x : Item) → Holds w l x → IsAssigned w l x
    here (assign n e) h = λ i lt. ap (λ f. f i) h
    here (wire h n) k = tt
    here (reg h n) k = tt
    here (mem h n last) k = tt
    here (clocked n c e) k = tt
    here (store c n x e) k = tt

module _ (d : Design) (sound : IsSound d) (owner : Name → ℕ) (inside : Name → Labels) where
  abbrev T : Name → ℕ → Label
  T = top_labels d owner inside

  -- the labels in an instance
  abbrev S : Leaf → Name → List Join → Labels
  S l i js = labelled (leaf_widths l) (fed_labels l js T (inside i)) l.items

  -- what is inside, by the instance's name
  abbrev I : Name → Labels
  I = by_instance d.leaves d.top.items (λ l n js. instance_labels l js T (inside n)) inside

  pub at-name : EachInstance d (λ l i js. I i ≡ S l i js)
  at-name =
      found-at d.leaves (top_lines d.top) (heading (codes "noc") ∷ map port d.top.ports) d.top.items (λ l n js. instance_labels l js T (inside n)) inside (known d sound)
      (passes-behind name_twice d.leaves (top_lines d.top) [] (heading (codes "noc") ∷ map port d.top.ports) (map joint d.top.items) (top-sound d sound.rules).once)

  -- ---- the top's inputs

  top-input : (n : Name) → is_kind is_input (top_lines d.top) n ≡ true → T n ≡ (λ i. from (only (owner n)))
  top-input n k =
      net-has d.leaves (output_labels inside) (λ x. x ≡ (λ i. from (only (owner n)))) n (λ i. from (only (owner n))) d.top.items (λ e. refl)
      (each-map d.leaves (GoodInstance (top_lines d.top)) (λ l i js. AllByRecursion (λ (j : Join). join_drives l n j ≡ true → output_labels inside l i j.port ≡ (λ i. from (only (owner n)))) js)
      (λ l i js g. all-map (GoodJoin (top_lines d.top) l) (λ (j : Join). join_drives l n j ≡ true → output_labels inside l i j.port ≡ (λ i. from (only (owner n))))
      (λ j h e.
      let parts = drives-parts (top_lines d.top) l n j h e in
      absurd (input-driven n k (ap (is_kind is_driven (top_lines d.top)) parts.0 ∙ parts.1.4))) js g.joins)
      d.top.items (good d sound))
    where
      kinds : (c : Kind) → is_input c ≡ true → is_driven c ≡ true → ⊥
      kinds Input a b = false≢true b
      kinds Output a b = false≢true a
      kinds Inner a b = false≢true a
      kinds Register a b = false≢true a
      kinds Memory a b = false≢true a
      kinds Child a b = false≢true a

      input-driven : (n : Name) → is_kind is_input (top_lines d.top) n ≡ true → is_kind is_driven (top_lines d.top) n ≡ true → ⊥
      input-driven n a b = let what = kind-of is_input (top_lines d.top) n a in kinds what.0.kind what.2 (sym (ap (kind_passes is_driven) what.1) ∙ b)

  -- ---- assigns

  assigned : EachInstance d (λ l i js. AllByRecursion (IsAssigned (leaf_widths l) (I i)) l.items)
  assigned =
      each-both d.leaves (GoodInstance (top_lines d.top)) (λ l i js. I i ≡ S l i js) (λ l i js. AllByRecursion (IsAssigned (leaf_widths l) (I i)) l.items)
      (λ l i js g e.
      subst (λ v. AllByRecursion (IsAssigned (leaf_widths l) v) l.items) (sym e)
      (are-assigned (leaf_widths l) (S l i js) l.items (labelled-holds (leaf_widths l) (fed_labels l js T (inside i)) l.items g.leaf.order)))
      d.top.items (good d sound) at-name

  -- ---- joins

  -- a net with one driver
  abbrev One : Type 0
  One = (n : Name) × (drivers d.leaves (map joint d.top.items) n ≡ 1)

  -- a port with one join
  abbrev OneJoin : List Join → Type 0
  OneJoin js = (n : Name) × (count_by (λ (k : Join). bytes_eq n k.port) js ≡ 1)

  abbrev Pulled : Leaf → Name → One → Join → Type 0
  Pulled l i x j = join_drives l x.0 j ≡ true → T x.0 ≡ output_labels inside l i j.port

  pulled : EachInstance d (λ l i js. (x : One) → AllByRecursion (Pulled l i x) js)
  pulled =
      each-pull {X = One} d.leaves (λ x l i js. AllByRecursion (Pulled l i x) js) d.top.items (known d sound)
      (λ x. net-one d.leaves (output_labels inside) x.0 (λ i. from (only (owner x.0))) d.top.items (known d sound) x.1)

  join-holds : (l : Leaf) (i : Name) (js : List Join) (g : GoodInstance (top_lines d.top) l i js) (j : Join) (h : GoodJoin (top_lines d.top) l j) → ((x : One) → Pulled l i x j)
      → ((x : OneJoin js) → bytes_eq x.0 j.port ≡ true → find (λ (k : Join). bytes_eq x.0 k.port) js ≡ Some j) → (b : Bool) → h.port.output ≡ b → (S l i js).net j.port ≡ T j.net
  join-holds l i js g j h drives finds true out =
      let what = kind-of is_driven (top_lines d.top) j.net (h.driven out) in
      let one : drivers d.leaves (map joint d.top.items) j.net ≡ 1 = one-driver d sound j.net what.0 what.1 (driven-wants what.0.kind what.2) in
      outputs-same l g.leaf (fed_labels l js T (inside i)) (inside i) refl (λ m e. fed-other l js T (inside i) m e) j.port h.port h.named out
      ∙ sym (drives (j.net, one) (and_from (bytes_eq j.net j.net) (is_output_port (port_named l.ports j.port)) (itself j.net) (ap is_output_port h.named ∙ out)))
  join-holds l i js g j h drives finds false out =
      labelled-keeps l g.leaf (fed_labels l js T (inside i)) j.port (ap (kind_passes is_driven) (leaf-port l j.port h.port h.named) ∙ ap (λ b. is_driven (way_of b)) out)
      ∙ fed-here l js T (inside i) j.port h.port j h.named out (finds (j.port, port-join l js g.each j.port h.port h.named) (itself j.port))

  joins-hold : (l : Leaf) (i : Name) (js : List Join) → GoodInstance (top_lines d.top) l i js → ((x : One) → AllByRecursion (Pulled l i x) js) → AllByRecursion (IsTied (leaf_widths l) (S l i js) T) js
  joins-hold l i js g pull =
      let all-drives = all-pull {X = One} (Pulled l i) js pull in
      let all-finds = all-pull {X = OneJoin js} (λ x (j : Join). bytes_eq x.0 j.port ≡ true → find (λ (k : Join). bytes_eq x.0 k.port) js ≡ Some j) js (λ x. one-found (λ (k : Join). bytes_eq x.0 k.port) js x.1) in
      all-both (GoodJoin (top_lines d.top) l) (λ (j : Join). ((x : One) → Pulled l i x j) × ((x : OneJoin js) → bytes_eq x.0 j.port ≡ true → find (λ (k : Join). bytes_eq x.0 k.port) js ≡ Some j))
      (IsTied (leaf_widths l) (S l i js) T) (λ j h two k lt. ap (λ f. f k) (join-holds l i js g j h two.0 two.1 h.port.output refl)) js g.joins
      (all-both (λ (j : Join). (x : One) → Pulled l i x j) (λ (j : Join). (x : OneJoin js) → bytes_eq x.0 j.port ≡ true → find (λ (k : Join). bytes_eq x.0 k.port) js ≡ Some j)
      (λ (j : Join). ((x : One) → Pulled l i x j) × ((x : OneJoin js) → bytes_eq x.0 j.port ≡ true → find (λ (k : Join). bytes_eq x.0 k.port) js ≡ Some j))
      (λ j a b. (a, b)) js all-drives all-finds)

  tied : EachInstance d (λ l i js. AllByRecursion (IsTied (leaf_widths l) (I i) T) js)
  tied =
      each-both d.leaves (λ l i js. AllByRecursion (IsTied (leaf_widths l) (S l i js) T) js) (λ l i js. I i ≡ S l i js) (λ l i js. AllByRecursion (IsTied (leaf_widths l) (I i) T) js)
      (λ l i js a e. subst (λ v. AllByRecursion (IsTied (leaf_widths l) v T) js) (sym e) a) d.top.items
      (each-both d.leaves (GoodInstance (top_lines d.top)) (λ l i js. (x : One) → AllByRecursion (Pulled l i x) js) (λ l i js. AllByRecursion (IsTied (leaf_widths l) (S l i js) T) js) joins-hold d.top.items (good d sound) pulled)
      at-name

  are-labels : AreLabels d owner (phase_labels d owner inside)
  unfolding phase_labels
  are-labels = record { inputs = λ n k i lt. ap (λ f. f i) (top-input n k); assigned = assigned; tied = tied }

  -- ---- registers and memories

  keeps : EachInstance d (λ l i js. ((m : Name) → is_kind is_register (leaf_lines l) m ≡ true → ((phase_labels d owner inside).inside i).net m ≡ (inside i).net m) × (((phase_labels d owner inside).inside i).word ≡ (inside i).word))
  unfolding phase_labels
  keeps =
      each-both d.leaves (GoodInstance (top_lines d.top)) (λ l i js. I i ≡ S l i js)
      (λ l i js. ((m : Name) → is_kind is_register (leaf_lines l) m ≡ true → (I i).net m ≡ (inside i).net m) × ((I i).word ≡ (inside i).word))
      (λ l i js g e. (
        (λ m k. ap (λ (v : Labels). v.net m) e ∙ labelled-keeps l g.leaf (fed_labels l js T (inside i)) m (register-free l m k) ∙ fed-other l js T (inside i) m (not-register l m k)),
        ap (λ (v : Labels). v.word) e ∙ labelled-word (leaf_widths l) (fed_labels l js T (inside i)) l.items,
      )) d.top.items (good d sound) at-name

pub labels-exist : LabelsExist
labels-exist d sound owner inside = (are-labels d sound owner inside, keeps d sound owner inside)
