-- A sound design whose outputs are clean isolates every domain: induction over the nets of a cycle, and over cycles.
use Rattle.std.proofs.Common.{◌≡◌, ℕ, zero, suc, ◌+◌, ◌%◌, ◌<◌, Bool, true, false, List, [], ◌∷◌, Option, refl, sym, ◌∙◌, ap, subst, arith}
use Rattle.std.specs.Prelude.{Some, None, ◌↔◌}
use Rattle.std.specs.Int.{bit_at}
use Rattle.std.specs.List.{AllByRecursion}
use Rattle.std.proofs.Math.Nat.{mod-lt, zero-mod, suc-mod}
use Rattle.std.proofs.lemmas.Nat.Bits.{same_from_bits_below}
use Rattle.std.proofs.lemmas.Bool.{eq-eqb, false≢true}
use Rattle.vl_tree.specs.declared.tree.Port.{Port}
use Rattle.vl_tree.specs.declared.tree.Join.{Join}
use Rattle.vl_tree.specs.Values.{Name, Item, wire, reg, mem, assign, clocked, store, Leaf, Design}
use Rattle.vl_model.specs.Meaning.{Widths, Values, value_of, nets_of}
use Rattle.vl_model.specs.Lines.{leaf_lines, top_lines, kind_passes, way_of, is_net, is_output, is_input, is_register, is_memory, net_bits, port_named}
use Rattle.vl_model.specs.declared.kind.Kind.{Kind}
use Rattle.vl_model.specs.declared.kind.Kind.TheVariants.{Input, Output, Inner, Register, Memory, Child}
use Rattle.vl_model.specs.Rules.{IsSound, is_kind}
use Rattle.vl_model.specs.Leaf.{leaf_widths, Assigned, Stepped, Reset, AreSmall, IsRightIn}
use Rattle.vl_model.specs.Whole.{Nets, top_widths, EachInstance, Joined, IsRun}
use Rattle.vl_tree.specs.Grammar.{limit}
use Rattle.vl_tree.specs.declared.tree.TopItem.{TopItem}
use Rattle.vl_model.specs.Settle.{by_name}
use Rattle.vl_model.specs.Handed.{HandsOn, Handed}
use Rattle.vl_model.proofs.Passed.{leaf-sound}
use Rattle.vl_model.proofs.Settling.{Tight}
use Rattle.vl_model.proofs.Ordered.{kind-of}
use Rattle.vl_model.proofs.Leaves.{leaf-port}
use Rattle.vl_model.proofs.Tops.{Each, each-map, each-both, each-leaf, GoodJoin, GoodInstance}
use Rattle.vl_model.proofs.One.{good, known as known-leaves, found-here, plain-leaf, all-both}
use Rattle.vl_model.proofs.Handed.{net-induction}
use Rattle.label_model.specs.Labels.{Labels, label_of}
use Rattle.label_model.specs.Lawful.{LabelNets, IsAssigned, IsTied, AreLabels, IsCarried, IsBegun, IsLawful, AreClean}
use Rattle.label_model.specs.Laws.{CleanIsolates}
use Rattle.label_model.proofs.Bits.{Agrees, AllAgree, agrees-own}
use Rattle.label_model.proofs.Exprs.{expr-agrees}
use Rattle.label_model.proofs.Edges.{no-net, ReadyLeaf, ready-leaf, WordsAgree, KeptAgrees, edge-agrees, begins}

-- two facts of each instance
pub each-pair : (ls : List Leaf) (P Q : Leaf → Name → List Join → Type 0) (is : List TopItem) → Each ls P is → Each ls Q is → Each ls (λ l n js. P l n js × Q l n js) is
each-pair ls P Q is p q = each-both ls P Q (λ l n js. P l n js × Q l n js) (λ l n js a b. (a, b)) is p q

-- ---- widths by the instance's name

abbrev widths-as-values : Option Leaf → Values
widths-as-values None = record { net = λ m. 0; word = λ m j. 0 }
widths-as-values (Some l) = record { net = (leaf_widths l).net; word = λ m j. 0 }

module _ (d : Design) (sound : IsSound d) where
  unfoldable pub width-in : Name → Name → ℕ
  width-in i n = (by_name d.leaves d.top.items (λ l k js. widths-as-values l) (λ k. widths-as-values None) i).net n

  abbrev pub HasWidth : Leaf → Name → List Join → Type 0
  HasWidth l i js = (n : Name) → width-in i n ≡ (leaf_widths l).net n

  pub wide : EachInstance d HasWidth
  unfolding width-in
  wide =
      each-map d.leaves (λ l i js. by_name d.leaves d.top.items (λ l k js. widths-as-values l) (λ k. widths-as-values None) i ≡ widths-as-values (Some l)) HasWidth
      (λ l i js e n. ap (λ (v : Values). v.net n) e) d.top.items (found-here d sound (λ l k js. widths-as-values l) (λ k. widths-as-values None))

  pub ready : EachInstance d (λ l i js. ReadyLeaf l)
  ready = each-leaf d.leaves ReadyLeaf d.top.items (known-leaves d sound) (λ n l e. ready-leaf l (plain-leaf d sound n l e) (leaf-sound d sound.rules n l e))

-- ---- one leaf, in a cycle

pub port-bits : (l : Leaf) (n : Name) (p : Port) → port_named l.ports n ≡ Some p → (leaf_widths l).net n ≡ p.high + 1
port-bits l n p e = ap net_bits (leaf-port l n p e) ∙ way p.output
  where
    way : (b : Bool) → net_bits (Some (record { name = p.name; kind = way_of b; high = p.high; last = 0 })) ≡ p.high + 1
    way true = refl
    way false = refl

-- an assign hands agreement on
hands : (d : ℕ) (w : Widths) (l : Labels) (v u : Values) → AreSmall w v → AreSmall w u → WordsAgree d w l v u → (P : Name → Type 0) → ((n : Name) → P n ↔ AllAgree d (l.net n) (w.net n) (v.net n) (u.net n))
    → (x : Item) → Tight w x → IsAssigned w l x × Assigned w v x × Assigned w u x → HandsOn P x
hands d w l v u vs us words P same (assign n e) t a = λ reads.
    (same n).1 (λ i lt.
    let here : Agrees d (label_of w l e i) (bit_at (value_of w v e) i) (bit_at (value_of w u e) i) =
    expr-agrees d w l v u vs us words limit e t.0 t.1 (each-read (nets_of e) reads) i (subst (λ z. i < z) (sym t.2) lt) in
    subst (λ z. Agrees d z (bit_at (v.net n) i) (bit_at (u.net n) i)) (sym (a.0 i lt))
    (subst (λ z. Agrees d (label_of w l e i) (bit_at z i) (bit_at (u.net n) i)) (sym a.1) (subst (λ z. Agrees d (label_of w l e i) (bit_at (value_of w v e) i) (bit_at z i)) (sym a.2) here)))
  where
    each-read : (ns : List Name) → AllByRecursion P ns → AllByRecursion (λ m. AllAgree d (l.net m) (w.net m) (v.net m) (u.net m)) ns
    each-read [] r = tt
    each-read (m ∷ ns) r = ((same m).0 r.0, each-read ns r.1)
hands d w l v u vs us words P same (wire h n) t a = tt
hands d w l v u vs us words P same (reg h n) t a = tt
hands d w l v u vs us words P same (mem h n last) t a = tt
hands d w l v u vs us words P same (clocked n k e) t a = tt
hands d w l v u vs us words P same (store c n i e) t a = tt

-- ---- two runs

module _ (d : Design) (sound : IsSound d) (owner : Name → ℕ) (L : ℕ) (some : 0 < L) (labels : ℕ → LabelNets) (lawful : IsLawful d owner L labels) (o : ℕ)
    (first : Name → Name → ℕ → ℕ) (one other : ℕ → Name → ℕ) (values others : ℕ → Nets) (r : IsRun d first one values) (q : IsRun d first other others)
    (alike : (t : ℕ) (n : Name) → is_kind is_input (top_lines d.top) n ≡ true → owner n ≡ o → one t n ≡ other t n) where
  abbrev Kept : ℕ → Leaf → Name → List Join → Type 0
  Kept t l i js = KeptAgrees o l ((labels (t % L)).inside i) ((values t).inside i) ((others t).inside i)

  abbrev TopAgrees : ℕ → Name → Type 0
  TopAgrees t n = AllAgree o ((labels (t % L)).top n) ((top_widths d).net n) ((values t).top n) ((others t).top n)

  abbrev InAgrees : ℕ → Name → Name → Type 0
  InAgrees t i n = AllAgree o (((labels (t % L)).inside i).net n) (width-in d sound i n) (((values t).inside i).net n) (((others t).inside i).net n)

  in-phase : (t : ℕ) → t % L < L
  in-phase t = mod-lt t some

  right-labels : (t : ℕ) → AreLabels d owner (labels (t % L))
  right-labels t = lawful.right (t % L) (in-phase t)

  -- what is used of each instance in a cycle
  abbrev Both : ℕ → Leaf → Name → List Join → Type 0
  Both t l i js = IsRightIn l ((values t).inside i) × IsRightIn l ((others t).inside i)

  abbrev Placed : Leaf → Name → List Join → Type 0
  Placed l i js = GoodInstance (top_lines d.top) l i js × HasWidth d sound l i js

  abbrev Here : ℕ → Leaf → Name → List Join → Type 0
  Here t l i js = Both t l i js × Placed l i js

  here-all : (t : ℕ) → EachInstance d (Here t)
  here-all t =
      each-pair d.leaves (Both t) Placed d.top.items
      (each-pair d.leaves (λ l i js. IsRightIn l ((values t).inside i)) (λ l i js. IsRightIn l ((others t).inside i)) d.top.items (r.right t).inside (q.right t).inside)
      (each-pair d.leaves (GoodInstance (top_lines d.top)) (HasWidth d sound) d.top.items (good d sound) (wide d sound))

  inputs-agree : (t : ℕ) (n : Name) → is_kind is_input (top_lines d.top) n ≡ true → TopAgrees t n
  inputs-agree t n k i lt =
      subst (λ z. Agrees o z (bit_at ((values t).top n) i) (bit_at ((others t).top n) i)) (sym ((right-labels t).inputs n k i lt)) (λ s.
      ap (λ z. bit_at z i) (r.fed t n k ∙ alike t n k (s (owner n) (eq-eqb (owner n) (owner n) refl)) ∙ sym (q.fed t n k)))

  abbrev Assigning : ℕ → Leaf → Name → List Join → Type 0
  Assigning t l i js = AllByRecursion (IsAssigned (leaf_widths l) ((labels (t % L)).inside i)) l.items × Kept t l i js

  assigns-agree : (t : ℕ) → EachInstance d (Kept t) → EachInstance d (λ l i js. AllByRecursion (HandsOn (InAgrees t i)) l.items)
  assigns-agree t kept =
      each-both d.leaves (Here t) (Assigning t) (λ l i js. AllByRecursion (HandsOn (InAgrees t i)) l.items)
      (λ l i js h a.
      let w = leaf_widths l in
      let v = (values t).inside i in
      let u = (others t).inside i in
      let lab = (labels (t % L)).inside i in
      all-both (Tight w) (λ x. IsAssigned w lab x × Assigned w v x × Assigned w u x) (HandsOn (InAgrees t i))
      (hands o w lab v u h.0.0.small h.0.1.small a.1.1 (InAgrees t i) (λ n. (
        (λ f j lt. f j (subst (λ z. j < z) (sym (h.1.1 n)) lt)),
        (λ f j lt. f j (subst (λ z. j < z) (h.1.1 n) lt)),
      ))) l.items h.1.0.leaf.tight
      (all-both (IsAssigned w lab) (λ x. Assigned w v x × Assigned w u x) (λ x. IsAssigned w lab x × Assigned w v x × Assigned w u x) (λ x a b. (a, b.0, b.1)) l.items a.0
      (all-both (Assigned w v) (Assigned w u) (λ x. Assigned w v x × Assigned w u x) (λ x a b. (a, b)) l.items h.0.0.assigned h.0.1.assigned))) d.top.items (here-all t)
      (each-pair d.leaves (λ l i js. AllByRecursion (IsAssigned (leaf_widths l) ((labels (t % L)).inside i)) l.items) (Kept t) d.top.items (right-labels t).assigned kept)

  abbrev Joining : ℕ → Leaf → Name → List Join → Type 0
  Joining t l i js = AllByRecursion (IsTied (leaf_widths l) ((labels (t % L)).inside i) (labels (t % L)).top) js
      × AllByRecursion (Joined ((values t).inside i) (values t).top) js × AllByRecursion (Joined ((others t).inside i) (others t).top) js

  join-agrees : (t : ℕ) (l : Leaf) (i : Name) (js : List Join) → HasWidth d sound l i js → (j : Join) → GoodJoin (top_lines d.top) l j
      → IsTied (leaf_widths l) ((labels (t % L)).inside i) (labels (t % L)).top j × Joined ((values t).inside i) (values t).top j × Joined ((others t).inside i) (others t).top j → InAgrees t i j.port ↔ TopAgrees t j.net
  join-agrees t l i js w j g a = (
    (λ f k lt. subst (λ z. Agrees o z (bit_at ((values t).top j.net) k) (bit_at ((others t).top j.net) k)) (a.0 k (subst (λ z. k < z) (sym same) lt))
        (subst (λ z. Agrees o (((labels (t % L)).inside i).net j.port k) (bit_at z k) (bit_at ((others t).top j.net) k)) a.1
        (subst (λ z. Agrees o (((labels (t % L)).inside i).net j.port k) (bit_at (((values t).inside i).net j.port) k) (bit_at z k)) a.2 (f k (subst (λ z. k < z) (sym (w j.port ∙ same)) lt))))),
    (λ f k lt.
        let less : k < (leaf_widths l).net j.port = subst (λ z. k < z) (w j.port) lt in
        subst (λ z. Agrees o z (bit_at (((values t).inside i).net j.port) k) (bit_at (((others t).inside i).net j.port) k)) (sym (a.0 k less))
        (subst (λ z. Agrees o ((labels (t % L)).top j.net k) (bit_at z k) (bit_at (((others t).inside i).net j.port) k)) (sym a.1)
        (subst (λ z. Agrees o ((labels (t % L)).top j.net k) (bit_at ((values t).top j.net) k) (bit_at z k)) (sym a.2) (f k (subst (λ z. k < z) same less))))),
  )
    where
      same : (leaf_widths l).net j.port ≡ (top_widths d).net j.net
      same = port-bits l j.port g.port g.named ∙ g.wide

  joins-agree : (t : ℕ) → EachInstance d (λ l i js. AllByRecursion (λ (j : Join). InAgrees t i j.port ↔ TopAgrees t j.net) js)
  joins-agree t =
      each-both d.leaves (Here t) (Joining t) (λ l i js. AllByRecursion (λ (j : Join). InAgrees t i j.port ↔ TopAgrees t j.net) js)
      (λ l i js h a.
      let lab = (labels (t % L)).inside i in
      let tied = IsTied (leaf_widths l) lab (labels (t % L)).top in
      let v = Joined ((values t).inside i) (values t).top in
      let u = Joined ((others t).inside i) (others t).top in
      all-both (GoodJoin (top_lines d.top) l) (λ j. tied j × v j × u j) (λ (j : Join). InAgrees t i j.port ↔ TopAgrees t j.net) (join-agrees t l i js h.1.1) js h.1.0.joins
      (all-both tied (λ j. v j × u j) (λ j. tied j × v j × u j) (λ j a b. (a, b.0, b.1)) js a.0 (all-both v u (λ j. v j × u j) (λ j a b. (a, b)) js a.1 a.2))) d.top.items (here-all t)
      (each-both d.leaves (λ l i js. AllByRecursion (IsTied (leaf_widths l) ((labels (t % L)).inside i) (labels (t % L)).top) js)
      (λ l i js. AllByRecursion (Joined ((values t).inside i) (values t).top) js × AllByRecursion (Joined ((others t).inside i) (others t).top) js) (Joining t) (λ l i js a b. (a, b.0, b.1)) d.top.items (right-labels t).tied
      (each-pair d.leaves (λ l i js. AllByRecursion (Joined ((values t).inside i) (values t).top) js) (λ l i js. AllByRecursion (Joined ((others t).inside i) (others t).top) js) d.top.items (r.right t).joined (q.right t).joined))

  abbrev RegistersAgree : ℕ → Leaf → Name → List Join → Type 0
  RegistersAgree t l i js = (n : Name) → is_kind is_register (leaf_lines l) n ≡ true → InAgrees t i n

  handed : (t : ℕ) → EachInstance d (Kept t) → Handed d (TopAgrees t) (InAgrees t)
  handed t kept = record {
    inputs = inputs-agree t;
    registers =
        each-both d.leaves (HasWidth d sound) (Kept t) (RegistersAgree t) (λ l i js w k n e j lt. k.0 n e j (subst (λ z. j < z) (w n) lt)) d.top.items (wide d sound) kept;
    assigns = assigns-agree t kept;
    joins = joins-agree t;
  }

  abbrev NetsAgree : ℕ → Leaf → Name → List Join → Type 0
  NetsAgree t l i js = (n : Name) → AllAgree o (((labels (t % L)).inside i).net n) ((leaf_widths l).net n) (((values t).inside i).net n) (((others t).inside i).net n)

  -- all nets of a cycle
  inside-agree : (t : ℕ) → EachInstance d (Kept t) → EachInstance d (NetsAgree t)
  inside-agree t kept =
      each-both d.leaves (HasWidth d sound) (λ l i js. (n : Name) → is_kind is_net (leaf_lines l) n ≡ true → InAgrees t i n) (NetsAgree t)
      (λ l i js w f n. go l i w f n (is_kind is_net (leaf_lines l) n) refl) d.top.items (wide d sound) (net-induction d sound (TopAgrees t) (InAgrees t) (handed t kept)).1
    where
      go : (l : Leaf) (i : Name) → ((n : Name) → width-in d sound i n ≡ (leaf_widths l).net n) → ((n : Name) → is_kind is_net (leaf_lines l) n ≡ true → InAgrees t i n) → (n : Name) (b : Bool) → is_kind is_net (leaf_lines l) n ≡ b
          → AllAgree o (((labels (t % L)).inside i).net n) ((leaf_widths l).net n) (((values t).inside i).net n) (((others t).inside i).net n)
      go l i w f n true k = λ j lt. f n k j (subst (λ z. j < z) (sym (w n)) lt)
      go l i w f n false k = λ j lt. let none = no-net (leaf_lines l) n k in absurd (omega (arith, none, lt))

  -- ---- cycles

  next-phase : (t : ℕ) → (t % L + 1) % L ≡ suc t % L
  next-phase t = let more : t % L + 1 ≡ suc (t % L) = omega arith in ap (λ x. x % L) more ∙ sym (suc-mod t L)

  abbrev Moving : ℕ → Leaf → Name → List Join → Type 0
  Moving t l i js = AllByRecursion (IsCarried (leaf_widths l) ((labels (t % L)).inside i) ((labels ((t % L + 1) % L)).inside i)) l.items
      × AllByRecursion (Stepped (leaf_widths l) ((values t).inside i) ((values (suc t)).inside i)) l.items × AllByRecursion (Stepped (leaf_widths l) ((others t).inside i) ((others (suc t)).inside i)) l.items

  moving : (t : ℕ) → EachInstance d (Moving t)
  moving t =
      each-both d.leaves (λ l i js. AllByRecursion (IsCarried (leaf_widths l) ((labels (t % L)).inside i) ((labels ((t % L + 1) % L)).inside i)) l.items)
      (λ l i js. AllByRecursion (Stepped (leaf_widths l) ((values t).inside i) ((values (suc t)).inside i)) l.items × AllByRecursion (Stepped (leaf_widths l) ((others t).inside i) ((others (suc t)).inside i)) l.items) (Moving t)
      (λ l i js a b. (a, b.0, b.1)) d.top.items (lawful.edges (t % L) (in-phase t))
      (each-pair d.leaves (λ l i js. AllByRecursion (Stepped (leaf_widths l) ((values t).inside i) ((values (suc t)).inside i)) l.items)
      (λ l i js. AllByRecursion (Stepped (leaf_widths l) ((others t).inside i) ((others (suc t)).inside i)) l.items) d.top.items (r.edges t) (q.edges t))

  abbrev Settled : ℕ → Leaf → Name → List Join → Type 0
  Settled t l i js = (ReadyLeaf l × NetsAgree t l i js) × (Both t l i js × Kept t l i js)

  next : (t : ℕ) → EachInstance d (Kept t) → EachInstance d (Kept (suc t))
  next t kept =
      subst (λ f. EachInstance d (λ l i js. KeptAgrees o l ((labels f).inside i) ((values (suc t)).inside i) ((others (suc t)).inside i))) (next-phase t)
      (each-both d.leaves (Settled t) (Moving t) (λ l i js. KeptAgrees o l ((labels ((t % L + 1) % L)).inside i) ((values (suc t)).inside i) ((others (suc t)).inside i))
      (λ l i js s m. edge-agrees o l ((labels (t % L)).inside i) ((labels ((t % L + 1) % L)).inside i) ((values t).inside i) ((others t).inside i) ((values (suc t)).inside i) ((others (suc t)).inside i)
      s.0.0 s.1.0.0.small s.1.0.1.small s.0.1 s.1.1.1 m.0 m.1 m.2) d.top.items
      (each-pair d.leaves (λ l i js. ReadyLeaf l × NetsAgree t l i js) (λ l i js. Both t l i js × Kept t l i js) d.top.items
      (each-pair d.leaves (λ l i js. ReadyLeaf l) (NetsAgree t) d.top.items (ready d sound) (inside-agree t kept))
      (each-pair d.leaves (Both t) (Kept t) d.top.items
      (each-pair d.leaves (λ l i js. IsRightIn l ((values t).inside i)) (λ l i js. IsRightIn l ((others t).inside i)) d.top.items (r.right t).inside (q.right t).inside) kept)) (moving t))

  abbrev Starting : Leaf → Name → List Join → Type 0
  Starting l i js = (ReadyLeaf l × AllByRecursion (IsBegun (leaf_widths l) ((labels 0).inside i)) l.items)
      × (AllByRecursion (Reset ((values 0).inside i)) l.items × AllByRecursion (Reset ((others 0).inside i)) l.items)

  abbrev Filled : Leaf → Name → List Join → Type 0
  Filled l i js = ((m : Name) (k : ℕ) → is_kind is_memory (leaf_lines l) m ≡ true → ((values 0).inside i).word m k ≡ first i m k)
      × ((m : Name) (k : ℕ) → is_kind is_memory (leaf_lines l) m ≡ true → ((others 0).inside i).word m k ≡ first i m k)

  start : EachInstance d (Kept 0)
  start =
      subst (λ f. EachInstance d (λ l i js. KeptAgrees o l ((labels f).inside i) ((values 0).inside i) ((others 0).inside i))) no-cycle
      (each-both d.leaves Starting Filled (λ l i js. KeptAgrees o l ((labels 0).inside i) ((values 0).inside i) ((others 0).inside i))
      (λ l i js s f. begins o l ((labels 0).inside i) ((values 0).inside i) ((others 0).inside i) s.0.0 s.0.1 s.1.0 s.1.1 (λ n j k. f.0 n j k ∙ sym (f.1 n j k))) d.top.items
      (each-pair d.leaves (λ l i js. ReadyLeaf l × AllByRecursion (IsBegun (leaf_widths l) ((labels 0).inside i)) l.items)
      (λ l i js. AllByRecursion (Reset ((values 0).inside i)) l.items × AllByRecursion (Reset ((others 0).inside i)) l.items) d.top.items
      (each-pair d.leaves (λ l i js. ReadyLeaf l) (λ l i js. AllByRecursion (IsBegun (leaf_widths l) ((labels 0).inside i)) l.items) d.top.items (ready d sound) lawful.starts)
      (each-pair d.leaves (λ l i js. AllByRecursion (Reset ((values 0).inside i)) l.items) (λ l i js. AllByRecursion (Reset ((others 0).inside i)) l.items) d.top.items r.starts q.starts))
      (each-pair d.leaves (λ l i js. (m : Name) (k : ℕ) → is_kind is_memory (leaf_lines l) m ≡ true → ((values 0).inside i).word m k ≡ first i m k)
      (λ l i js. (m : Name) (k : ℕ) → is_kind is_memory (leaf_lines l) m ≡ true → ((others 0).inside i).word m k ≡ first i m k) d.top.items r.filled q.filled))
    where
      no-cycle : 0 ≡ 0 % L
      no-cycle = sym (zero-mod L)

  pub kept : (t : ℕ) → EachInstance d (Kept t)
  kept zero = start
  kept (suc t) = next t (kept t)

  output-net : (n : Name) → is_kind is_output (top_lines d.top) n ≡ true → is_kind is_net (top_lines d.top) n ≡ true
  output-net n k = let what = kind-of is_output (top_lines d.top) n k in ap (kind_passes is_net) what.1 ∙ kinds what.0.kind what.2
    where
      kinds : (c : Kind) → is_output c ≡ true → is_net c ≡ true
      kinds Input e = refl
      kinds Output e = refl
      kinds Inner e = refl
      kinds Register e = refl
      kinds Memory e = absurd (false≢true e)
      kinds Child e = absurd (false≢true e)

  pub outputs-agree : AreClean d owner L labels → (t : ℕ) (n : Name) → is_kind is_output (top_lines d.top) n ≡ true → owner n ≡ o → (values t).top n ≡ (others t).top n
  outputs-agree clean t n k mine =
      same_from_bits_below ((top_widths d).net n) ((values t).top n) ((others t).top n) ((r.right t).top n) ((q.right t).top n) (λ i lt.
      agrees-own o ((labels (t % L)).top n i) (bit_at ((values t).top n) i) (bit_at ((others t).top n) i)
      ((net-induction d sound (TopAgrees t) (InAgrees t) (handed t (kept t))).0 n (output-net n k) i lt) (λ e s. clean n k (t % L) (in-phase t) i lt e s ∙ mine))

pub clean-isolates : CleanIsolates
clean-isolates d sound owner L some labels lawful clean o first one other values others r q alike t n k mine =
    outputs-agree d sound owner L some labels lawful o first one other values others r q alike clean t n k mine
