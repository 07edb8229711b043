-- What registers and the top's inputs have, and assigns and joins hand on, all nets have: induction over the nets of a cycle.
use Rattle.std.proofs.Common.{◌≡◌, ℕ, ◌+◌, Bool, true, false, List, [], ◌∷◌, ◌++◌, map, Option, refl, sym, ◌∙◌, ap, subst, bytes_eq, arith}
use Rattle.std.specs.Prelude.{Some, None, ◌↔◌, if◌then◌else◌, find}
use Rattle.std.specs.List.{AllByRecursion, list_any, list_all}
use Rattle.std.proofs.lemmas.Bool.{and_parts, or_parts, or_from, or_left, both_ways, false≢true}
use Rattle.vl_tree.specs.declared.tree.Port.{Port}
use Rattle.vl_tree.specs.declared.tree.Join.{Join}
use Rattle.vl_tree.specs.Values.{Name, Item, wire, reg, mem, assign, clocked, store, Leaf, Design}
use Rattle.vl_model.specs.Meaning.{Use, Values, nets_of, uses_of}
use Rattle.vl_model.specs.declared.kind.Kind.{Kind}
use Rattle.vl_model.specs.declared.kind.Kind.TheVariants.{Input, Output, Inner, Register, Memory, Child}
use Rattle.vl_model.specs.Lines.{Line, item, joint, sites_behind, leaf_lines, top_lines, Declared, lookup, kind_passes, way_of, is_net, is_memory, is_driven, is_register, is_input, net_bits, widths, port_named}
use Rattle.vl_model.specs.Rules.{IsSound, is_kind, knows, name_unknown, depending, all_depending, join_drives, drivers, wants_driver}
use Rattle.vl_model.specs.Whole.{EachInstance}
use Rattle.vl_model.specs.Order.{is_assigned, InOrder}
use Rattle.vl_model.specs.Handed.{HandsOn, Handed}
use Rattle.vl_model.proofs.Passed.{Passes, passes-behind, leaf-sound}
use Rattle.vl_model.proofs.Settling.{one-name, itself}
use Rattle.vl_model.proofs.Ordered.{lookup-front, kind-of, known-here, more}
use Rattle.vl_model.proofs.Leaves.{GoodLeaf, front, leaf-port, leaf-input, stays, input-depends, depending-append}
use Rattle.vl_model.proofs.Tops.{Each, each-map, each-both, each-leaf, GoodJoin, GoodInstance, net-has, found-has, found-none}
use Rattle.vl_model.proofs.One.{good, known, one-driver, drives-parts, port-join, all-both}

-- ---- a leaf reads nets

abbrev ReadsNets : List Line → Item → Type 0
ReadsNets all (assign n e) = AllByRecursion (λ m. is_kind is_net all m ≡ true) (nets_of e)
ReadsNets all _ = Unit {0}

nets-here : (all before rest : List Line) (ns : List Name) → all ≡ before ++ rest
    → list_all (is_kind is_net before) ns ≡ true → AllByRecursion (λ m. is_kind is_net all m ≡ true) ns
nets-here all before rest [] e k = tt
nets-here all before rest (n ∷ ns) e k =
    let ks = and_parts (is_kind is_net before n) (list_all (is_kind is_net before) ns) k in
    let what = kind-of is_net before n ks.0 in
    (ap (λ l. is_kind is_net l n) e ∙ ap (kind_passes is_net) (lookup-front before rest n what.0 what.1) ∙ what.2, nets-here all before rest ns e ks.1)

reads-nets : (ls : List Leaf) (all before : List Line) (is : List Item) → all ≡ before ++ map item is
    → Passes name_unknown (sites_behind ls all before (map item is)) → AllByRecursion (ReadsNets all) is
reads-nets ls all before [] e p = tt
reads-nets ls all before (wire h n ∷ is) e p =
    (tt, reads-nets ls all (before ++ item (wire h n) ∷ []) is (more all before (wire h n) is e) p.1)
reads-nets ls all before (reg h n ∷ is) e p =
    (tt, reads-nets ls all (before ++ item (reg h n) ∷ []) is (more all before (reg h n) is e) p.1)
reads-nets ls all before (mem h n last ∷ is) e p =
    (tt, reads-nets ls all (before ++ item (mem h n last) ∷ []) is (more all before (mem h n last) is e) p.1)
reads-nets ls all before (clocked n k v ∷ is) e p =
    (tt, reads-nets ls all (before ++ item (clocked n k v) ∷ []) is (more all before (clocked n k v) is e) p.1)
reads-nets ls all before (store c n i v ∷ is) e p =
    (tt, reads-nets ls all (before ++ item (store c n i v) ∷ []) is (more all before (store c n i v) is e) p.1)
reads-nets ls all before (assign n v ∷ is) e p =
    let parts =
    and_parts (is_kind is_driven before n) (knows before v) (known-here ls all before (item (assign n v)) (map item is) p) in
    let reads =
    and_parts (list_all (is_kind is_net before) (nets_of v)) (list_all (λ (u : Use). is_kind is_memory before u.memory) (uses_of v)) parts.1 in
    (nets-here all before (map item (assign n v ∷ is)) (nets_of v) e reads.0, reads-nets ls all (before ++ item (assign n v) ∷ []) is (more all before (assign n v) is e) p.1)

-- ---- through a leaf

module _ (all : List Line) (P : Name → Type 0) where
  each-read : (is : List Item) (ns : List Name)
      → ((m : Name) → is_kind is_net all m ≡ true → is_assigned is m ≡ false → P m)
      → AllByRecursion (λ m. is_kind is_net all m ≡ true) ns
      → AllByRecursion (λ m. is_assigned is m ≡ false) ns → AllByRecursion P ns
  each-read is [] h a b = tt
  each-read is (n ∷ ns) h a b = (h n a.0 b.0, each-read is ns h a.1 b.1)

  -- where all that is not assigned from here on has P, all nets have it
  pub along : (is : List Item) → InOrder is → AllByRecursion (ReadsNets all) is → AllByRecursion (HandsOn P) is
      → ((m : Name) → is_kind is_net all m ≡ true → is_assigned is m ≡ false → P m)
      → (m : Name) → is_kind is_net all m ≡ true → P m
  along [] o r a h m k = h m k refl
  along (wire x n ∷ is) o r a h m k = along is o r.1 a.1 h m k
  along (reg x n ∷ is) o r a h m k = along is o r.1 a.1 h m k
  along (mem x n last ∷ is) o r a h m k = along is o r.1 a.1 h m k
  along (clocked n c v ∷ is) o r a h m k = along is o r.1 a.1 h m k
  along (store c n i v ∷ is) o r a h m k = along is o r.1 a.1 h m k
  along (assign n v ∷ is) o r a h m k = along is o.2 r.1 a.1 (λ m k f. go m k f (bytes_eq m n) refl) m k
    where
      go : (m : Name) → is_kind is_net all m ≡ true → is_assigned is m ≡ false → (b : Bool) → bytes_eq m n ≡ b → P m
      go m k f true same = subst P (sym (one-name m n same)) (a.0 (each-read (assign n v ∷ is) (nets_of v) h r.0 o.0))
      go m k f false other = h m k (or_from (bytes_eq m n) (is_assigned is m) other f)

-- ---- what does not depend on inputs

pub depends-outside : (ns : List Name) (is : List Item) (m : Name) → is_assigned is m ≡ false
    → list_any (bytes_eq m) ns ≡ false → list_any (bytes_eq m) (all_depending ns (map item is)) ≡ false
depends-outside ns [] m f h = h
depends-outside ns (wire x n ∷ is) m f h = depends-outside ns is m f h
depends-outside ns (reg x n ∷ is) m f h = depends-outside ns is m f h
depends-outside ns (mem x n last ∷ is) m f h = depends-outside ns is m f h
depends-outside ns (clocked n c v ∷ is) m f h = depends-outside ns is m f h
depends-outside ns (store c n i v ∷ is) m f h = depends-outside ns is m f h
depends-outside ns (assign n v ∷ is) m f h =
    let fs = or_parts (bytes_eq m n) (is_assigned is m) f in
    depends-outside (depending ns (item (assign n v))) is m fs.1 (added fs.0 (list_any (λ k. list_any (bytes_eq k) ns) (nets_of v)))
  where
    added : bytes_eq m n ≡ false → (b : Bool) → list_any (bytes_eq m) (if b then n ∷ ns else ns) ≡ false
    added other true = or_from (bytes_eq m n) (list_any (bytes_eq m) ns) other h
    added other false = h

-- the part of P that does not depend on these names is handed on
module _ (P : Name → Type 0) where
  pure-reads : (D : List Name) (ns ms : List Name) → AllByRecursion (λ m. list_any (bytes_eq m) D ≡ false → P m) ms
      → AllByRecursion (λ m. list_any (bytes_eq m) ns ≡ false → list_any (bytes_eq m) D ≡ false) ms
      → list_any (λ k. list_any (bytes_eq k) ns) ms ≡ false → AllByRecursion P ms
  pure-reads D ns [] a b f = tt
  pure-reads D ns (m ∷ ms) a b f =
      let fs = or_parts (list_any (bytes_eq m) ns) (list_any (λ k. list_any (bytes_eq k) ns) ms) f in (a.0 (b.0 fs.0), pure-reads D ns ms a.1 b.1 fs.1)

  outside-all : (ns : List Name) (is : List Item) (ms : List Name) → AllByRecursion (λ m. is_assigned is m ≡ false) ms
      → AllByRecursion (λ m. list_any (bytes_eq m) ns ≡ false → list_any (bytes_eq m) (all_depending ns (map item is)) ≡ false) ms
  outside-all ns is [] a = tt
  outside-all ns is (m ∷ ms) a = ((λ h. depends-outside ns is m a.0 h), outside-all ns is ms a.1)

  pub hands-pure : (ns : List Name) (is : List Item) → InOrder is → AllByRecursion (HandsOn P) is
      → AllByRecursion (HandsOn (λ m. list_any (bytes_eq m) (all_depending ns (map item is)) ≡ false → P m)) is
  hands-pure ns [] o a = tt
  hands-pure ns (wire x n ∷ is) o a = (tt, hands-pure ns is o a.1)
  hands-pure ns (reg x n ∷ is) o a = (tt, hands-pure ns is o a.1)
  hands-pure ns (mem x n last ∷ is) o a = (tt, hands-pure ns is o a.1)
  hands-pure ns (clocked n c v ∷ is) o a = (tt, hands-pure ns is o a.1)
  hands-pure ns (store c n i v ∷ is) o a = (tt, hands-pure ns is o a.1)
  hands-pure ns (assign n v ∷ is) o a = ((λ given free. go given free (list_any (λ k. list_any (bytes_eq k) ns) (nets_of v)) refl), hands-pure (depending ns (item (assign n v))) is o.2 a.1)
    where
      D : List Name
      D = all_depending ns (map item (assign n v ∷ is))

      go : AllByRecursion (λ m. list_any (bytes_eq m) D ≡ false → P m) (nets_of v) → list_any (bytes_eq n) D ≡ false
          → (b : Bool) → list_any (λ k. list_any (bytes_eq k) ns) (nets_of v) ≡ b → P n
      go given free true some =
          absurd (both_ways (list_any (bytes_eq n) D) free
          (stays (depending ns (item (assign n v))) (map item is) n (subst (λ b. list_any (bytes_eq n) (if b then n ∷ ns else ns) ≡ true) (sym some) (or_left (bytes_eq n n) (list_any (bytes_eq n) ns) (itself n)))))
      go given free false none =
          a.0 (pure-reads D ns (nets_of v) given (outside-all ns (assign n v ∷ is) (nets_of v) o.0) none)

-- ---- one leaf

module _ (l : Leaf) (g : GoodLeaf l) (reads : AllByRecursion (ReadsNets (leaf_lines l)) l.items) (P : Name → Type 0) (hands : AllByRecursion (HandsOn P) l.items)
    (registers : (n : Name) → is_kind is_register (leaf_lines l) n ≡ true → P n) where
  base : (Q : Name → Type 0) → ((n : Name) → is_kind is_register (leaf_lines l) n ≡ true → Q n)
      → ((n : Name) → is_kind is_input (leaf_lines l) n ≡ true → Q n)
      → (m : Name) → is_kind is_net (leaf_lines l) m ≡ true → is_assigned l.items m ≡ false → Q m
  base Q regs ins m k f = go what.0.kind refl
    where
      what : (x : Declared) × (lookup (leaf_lines l) m ≡ Some x) × (is_net x.kind ≡ true)
      what = kind-of is_net (leaf_lines l) m k

      go : (c : Kind) → what.0.kind ≡ c → Q m
      go Input e = ins m (ap (kind_passes is_input) what.1 ∙ ap is_input e)
      go Output e =
          absurd (both_ways (is_assigned l.items m) f (g.driven m (ap (kind_passes is_driven) what.1 ∙ ap is_driven e)))
      go Inner e =
          absurd (both_ways (is_assigned l.items m) f (g.driven m (ap (kind_passes is_driven) what.1 ∙ ap is_driven e)))
      go Register e = regs m (ap (kind_passes is_register) what.1 ∙ ap is_register e)
      go Memory e = absurd (false≢true (sym (ap is_net e) ∙ what.2))
      go Child e = absurd (false≢true (sym (ap is_net e) ∙ what.2))

  -- with the inputs, all nets
  pub leaf-all : ((n : Name) → is_kind is_input (leaf_lines l) n ≡ true → P n) → (m : Name)
      → is_kind is_net (leaf_lines l) m ≡ true → P m
  leaf-all ins = along (leaf_lines l) P l.items g.order reads hands (base P registers ins)

  -- without them, the outputs
  pub leaf-outputs : (n : Name) (p : Port) → port_named l.ports n ≡ Some p → p.output ≡ true → P n
  leaf-outputs n p named out =
      along (leaf_lines l) Pure l.items g.order reads (hands-pure P (all_depending [] (front l)) l.items g.order hands) (base Pure (λ m k free. registers m k) (λ m k free. absurd (inputs m k free))) n net_kind
      (subst (λ ns. list_any (bytes_eq n) ns ≡ false) (depending-append [] (front l) (map item l.items)) (g.through n p named out))
    where
      Pure : Name → Type 0
      Pure m = list_any (bytes_eq m) (all_depending (all_depending [] (front l)) (map item l.items)) ≡ false → P m

      inputs : (m : Name) → is_kind is_input (leaf_lines l) m ≡ true
          → list_any (bytes_eq m) (all_depending (all_depending [] (front l)) (map item l.items)) ≡ false → ⊥
      inputs m k free =
          let q = leaf-input l m k in
          both_ways (list_any (bytes_eq m) (all_depending (all_depending [] (front l)) (map item l.items))) free (stays (all_depending [] (front l)) (map item l.items) m (input-depends [] l.ports m q.0 q.1 q.2))

      net_kind : is_kind is_net (leaf_lines l) n ≡ true
      net_kind = ap (kind_passes is_net) (leaf-port l n p named) ∙ ap (λ b. is_net (way_of b)) out

-- ---- the whole design

-- a net that has a width is one
net-by-width : (all : List Line) (n : Name) (h : ℕ) → h + 1 ≡ (widths all).net n → is_kind is_net all n ≡ true
net-by-width all n h e = go (lookup all n) refl
  where
    some : (x : Declared) → (b : Bool) → h + 1 ≡ (if b then x.high + 1 else 0) → b ≡ true
    some x true f = refl
    some x false f = absurd (omega (arith, f))

    go : (o : Option Declared) → lookup all n ≡ o → is_kind is_net all n ≡ true
    go None is = absurd (omega (arith, e ∙ ap net_bits is))
    go (Some x) is = ap (kind_passes is_net) is ∙ some x (is_net x.kind) (e ∙ ap net_bits is)

zero_values : Name → Values
zero_values i = record { net = λ n. 0; word = λ n k. 0 }

module _ (d : Design) (sound : IsSound d) (T : Name → Type 0) (I : Name → Name → Type 0) (h : Handed d T I) where
  reading : Each d.leaves (λ l i js. AllByRecursion (ReadsNets (leaf_lines l)) l.items) d.top.items
  reading =
      each-leaf d.leaves (λ l. AllByRecursion (ReadsNets (leaf_lines l)) l.items) d.top.items (known d sound)
      (λ n l e. let s = leaf-sound d sound.rules n l e in reads-nets s.0 (leaf_lines l) (front l) l.items refl (passes-behind name_unknown s.0 (leaf_lines l) [] (front l) (map item l.items) s.1.known))

  abbrev Facts : Leaf → Name → List Join → Type 0
  Facts l i js = GoodInstance (top_lines d.top) l i js × AllByRecursion (ReadsNets (leaf_lines l)) l.items × AllByRecursion (HandsOn (I i)) l.items
      × ((n : Name) → is_kind is_register (leaf_lines l) n ≡ true → I i n) × AllByRecursion (λ (j : Join). I i j.port ↔ T j.net) js

  facts : Each d.leaves Facts d.top.items
  facts =
      each-both d.leaves (λ l i js. GoodInstance (top_lines d.top) l i js × AllByRecursion (ReadsNets (leaf_lines l)) l.items)
      (λ l i js. AllByRecursion (HandsOn (I i)) l.items × ((n : Name) → is_kind is_register (leaf_lines l) n ≡ true → I i n) × AllByRecursion (λ (j : Join). I i j.port ↔ T j.net) js) Facts
      (λ l i js a b. (a.0, a.1, b.0, b.1, b.2)) d.top.items
      (each-both d.leaves (GoodInstance (top_lines d.top)) (λ l i js. AllByRecursion (ReadsNets (leaf_lines l)) l.items) (λ l i js. GoodInstance (top_lines d.top) l i js × AllByRecursion (ReadsNets (leaf_lines l)) l.items)
      (λ l i js a b. (a, b)) d.top.items (good d sound) reading)
      (each-both d.leaves (λ l i js. AllByRecursion (HandsOn (I i)) l.items) (λ l i js. ((n : Name) → is_kind is_register (leaf_lines l) n ≡ true → I i n) × AllByRecursion (λ (j : Join). I i j.port ↔ T j.net) js)
      (λ l i js. AllByRecursion (HandsOn (I i)) l.items × ((n : Name) → is_kind is_register (leaf_lines l) n ≡ true → I i n) × AllByRecursion (λ (j : Join). I i j.port ↔ T j.net) js)
      (λ l i js a b. (a, b.0, b.1)) d.top.items h.assigns
      (each-both d.leaves (λ l i js. (n : Name) → is_kind is_register (leaf_lines l) n ≡ true → I i n) (λ l i js. AllByRecursion (λ (j : Join). I i j.port ↔ T j.net) js)
      (λ l i js. ((n : Name) → is_kind is_register (leaf_lines l) n ≡ true → I i n) × AllByRecursion (λ (j : Join). I i j.port ↔ T j.net) js) (λ l i js a b. (a, b)) d.top.items h.registers h.joins))

  -- a driven net of the top has it from an output, which has it from registers
  driven-has : (n : Name) → drivers d.leaves (map joint d.top.items) n ≡ 1 → T n
  driven-has n one =
      net-has d.leaves zero_values (λ x. T n) n 0 d.top.items (λ none. absurd (omega arith))
      (each-map d.leaves Facts (λ l i js. AllByRecursion (λ (j : Join). join_drives l n j ≡ true → T n) js)
      (λ l i js f. all-both (GoodJoin (top_lines d.top) l) (λ (j : Join). I i j.port ↔ T j.net) (λ (j : Join). join_drives l n j ≡ true → T n)
      (λ j gj both e.
      let parts = drives-parts (top_lines d.top) l n j gj e in
      subst T (sym parts.0) (both.0 (leaf-outputs l f.0.leaf f.1 (I i) f.2 f.3 j.port parts.1.0 parts.1.1 parts.1.2))) js f.0.joins f.4)
      d.top.items facts)

  pub top-has : (n : Name) → is_kind is_net (top_lines d.top) n ≡ true → T n
  top-has n k = go what.0.kind refl
    where
      what : (x : Declared) × (lookup (top_lines d.top) n ≡ Some x) × (is_net x.kind ≡ true)
      what = kind-of is_net (top_lines d.top) n k

      go : (c : Kind) → what.0.kind ≡ c → T n
      go Input e = h.inputs n (ap (kind_passes is_input) what.1 ∙ ap is_input e)
      go Output e = driven-has n (one-driver d sound n what.0 what.1 (ap wants_driver e))
      go Inner e = driven-has n (one-driver d sound n what.0 what.1 (ap wants_driver e))
      go Register e = driven-has n (one-driver d sound n what.0 what.1 (ap wants_driver e))
      go Memory e = absurd (false≢true (sym (ap is_net e) ∙ what.2))
      go Child e = absurd (false≢true (sym (ap is_net e) ∙ what.2))

  input-has : (l : Leaf) (i : Name) (js : List Join) → Facts l i js → (n : Name)
      → is_kind is_input (leaf_lines l) n ≡ true → I i n
  input-has l i js f n k = go (find (λ (j : Join). bytes_eq n j.port) js) refl
    where
      p : (p : Port) × (port_named l.ports n ≡ Some p) × (p.output ≡ false)
      p = leaf-input l n k

      go : (o : Option Join) → find (λ (j : Join). bytes_eq n j.port) js ≡ o → I i n
      go None e =
          let one = port-join l js f.0.each n p.0 p.1 in
          let none = found-none (λ (j : Join). bytes_eq n j.port) js e in
          absurd (omega arith)
      go (Some j) e =
          let has = found-has (λ (j : Join). bytes_eq n j.port) (λ (j : Join). GoodJoin (top_lines d.top) l j × (I i j.port ↔ T j.net)) js j e
          (all-both (GoodJoin (top_lines d.top) l) (λ (j : Join). I i j.port ↔ T j.net) (λ (j : Join). bytes_eq n j.port ≡ true → GoodJoin (top_lines d.top) l j × (I i j.port ↔ T j.net)) (λ j a b t. (a, b)) js f.0.joins f.4) in
          subst (I i) (sym (one-name n j.port has.0)) (has.1.1.1 (top-has j.net (net-by-width (top_lines d.top) j.net has.1.0.port.high has.1.0.wide)))

  pub inside-has : EachInstance d (λ l i js. (n : Name) → is_kind is_net (leaf_lines l) n ≡ true → I i n)
  inside-has =
      each-map d.leaves Facts (λ l i js. (n : Name) → is_kind is_net (leaf_lines l) n ≡ true → I i n)
      (λ l i js f. leaf-all l f.0.leaf f.1 (I i) f.2 f.3 (input-has l i js f)) d.top.items facts

-- for a property of any kind
pub net-induction : (d : Design) → IsSound d → (T : Name → Type 0) (I : Name → Name → Type 0) → Handed d T I
    → ((n : Name) → is_kind is_net (top_lines d.top) n ≡ true → T n) × EachInstance d (λ l i joins. (n : Name) → is_kind is_net (leaf_lines l) n ≡ true → I i n)
net-induction d sound T I h = (top-has d sound T I h, inside-has d sound T I h)
