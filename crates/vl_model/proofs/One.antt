-- A sound design has exactly one right valuation for each state and inputs.
use Rattle.std.proofs.Common.{◌≡◌, ℕ, ◌+◌, ◌<◌, ◌^◌, Bool, true, false, ◌&&◌, List, [], ◌∷◌, map, Option, refl, sym, ◌∙◌, ap, subst, bytes_eq, arith}
use Rattle.std.specs.Prelude.{Some, None, ◌==◌, if◌then◌else◌, count_by, find, codes}
use Rattle.std.specs.List.{AllByRecursion, list_all}
use Rattle.std.proofs.lemmas.Option.{none-some}
use Rattle.std.proofs.lemmas.Bool.{and_parts, and_from, both_ways, eqb-true, false≢true}
use Rattle.vl_tree.specs.declared.tree.Port.{Port}
use Rattle.vl_tree.specs.declared.tree.Join.{Join}
use Rattle.vl_tree.specs.declared.tree.TopItem.{TopItem}
use Rattle.vl_tree.specs.declared.tree.TopItem.TheVariants.{Wire, Instance}
use Rattle.vl_tree.specs.Values.{Name, Leaf, Design}
use Rattle.vl_tree.specs.Tokens.{is_name}
use Rattle.vl_tree.specs.Plain.{plain_port, plain_item, plain_leaf, plain_top_item}
use Rattle.vl_tree.proofs.Plainly.{is_plain_design}
use Rattle.vl_model.specs.Meaning.{Values}
use Rattle.vl_model.specs.declared.kind.Kind.{Kind}
use Rattle.vl_model.specs.declared.kind.Kind.TheVariants.{Input, Output, Inner, Register, Memory, Child}
use Rattle.vl_model.specs.Lines.{Line, heading, port, joint, leaf_lines, top_lines, Declared, lookup, kind_passes, way_of, is_net, is_driven, is_register, is_input, net_bits, widths, leaf_named, port_named}
use Rattle.vl_model.specs.Rules.{IsSound, is_kind, name_twice, name_unknown, wrong_width, wrong_joins, join_drives, is_output_port, drivers, wants_driver}
use Rattle.vl_model.specs.Leaf.{leaf_widths, AreSmall, IsRightIn}
use Rattle.vl_model.specs.Whole.{Nets, Of, Joined, IsRight, SameKept, SameState, SameNets, AreSmallNets}
use Rattle.vl_model.specs.Settle.{is_input_port, net_of_join, fed, settled_in, top_value, by_name, instance_settled, inside_settled, settled}
use Rattle.vl_model.specs.Laws.{OneValuation}
use Rattle.vl_model.proofs.Passed.{passes-behind, leaf-sound, top-sound, all-map}
use Rattle.vl_model.proofs.Settling.{one-name, itself, settle-word}
use Rattle.vl_model.proofs.Ordered.{kind-of, driven-once, driven-wants, drivers-append}
use Rattle.vl_model.proofs.Leaves.{GoodLeaf, good-leaf, named-cases, leaf-port, leaf-input, outputs-same, settled-right, settled-keeps, right-settled, below-one}
use Rattle.vl_model.proofs.Tops.{Each, each-map, each-both, GoodJoin, GoodInstance, good-instances, Known, turn, net-has, net-one, found-at, one-found, found-has, found-none as found-zero}

-- ---- on lists

all-pull : {X A : Type 0} (Q : X → A → Type 0) (xs : List A) → ((x : X) → AllByRecursion (Q x) xs)
    → AllByRecursion (λ a. (x : X) → Q x a) xs
all-pull Q [] f = tt
all-pull Q (a ∷ xs) f = ((λ x. (f x).0), all-pull Q xs (λ x. (f x).1))

pub all-both : {A : Type 0} (P Q R : A → Type 0) → ((x : A) → P x → Q x → R x) → (xs : List A) → AllByRecursion P xs
    → AllByRecursion Q xs → AllByRecursion R xs
all-both P Q R f [] h k = tt
all-both P Q R f (x ∷ xs) h k = (f x h.0 k.0, all-both P Q R f xs h.1 k.1)

of-pull : {X : Type 0} (o : Option Leaf) (P : X → Leaf → Type 0) → Of o (λ l. Unit {0}) → ((x : X) → Of o (P x))
    → Of o (λ l. (x : X) → P x l)
of-pull None P k f = k
of-pull (Some l) P k f = f

pub each-pull : {X : Type 0} (ls : List Leaf) (P : X → Leaf → Name → List Join → Type 0) (is : List TopItem)
    → Known ls is → ((x : X) → Each ls (P x) is) → Each ls (λ l n js. (x : X) → P x l n js) is
each-pull ls P [] k f = tt
each-pull ls P (Wire h m ∷ is) k f = (tt, each-pull ls P is k.1 (λ x. (f x).1))
each-pull ls P (Instance l n js ∷ is) k f =
    (of-pull (leaf_named ls l) (λ x leaf. P x leaf n js) k.0 (λ x. (f x).0), each-pull ls P is k.1 (λ x. (f x).1))

-- ---- on ports

way-net : (b : Bool) → is_net (way_of b) ≡ true
way-net true = refl
way-net false = refl

port-bits : (l : Leaf) (n : Name) (p : Port) → port_named l.ports n ≡ Some p → (leaf_widths l).net n ≡ p.high + 1
port-bits l n p e = ap net_bits (leaf-port l n p e) ∙ ap (λ b. if b then p.high + 1 else 0) (way-net p.output)

named-test : (t : Port → Bool) (ps : List Port) (n : Name) (p : Port) → list_all t ps ≡ true → port_named ps n ≡ Some p
    → (t p ≡ true) × (n ≡ p.name)
named-test t [] n p a e = absurd (none-some p e)
named-test t (q ∷ ps) n p a e =
    let both = and_parts (t q) (list_all t ps) a in
    named-cases q ps n p e (λ is one. (subst (λ r. t r ≡ true) one both.0, one-name n q.name is ∙ ap (λ (r : Port). r.name) one)) (λ is later. named-test t ps n p both.1 later)

-- each port has its one join
pub port-join : (l : Leaf) (js : List Join)
    → list_all (λ (p : Port). count_by (λ (j : Join). bytes_eq p.name j.port) js == 1) l.ports ≡ true
    → (n : Name) (p : Port) → port_named l.ports n ≡ Some p
    → count_by (λ (j : Join). bytes_eq n j.port) js ≡ 1
port-join l js each n p e =
    let both = named-test (λ (p : Port). count_by (λ (j : Join). bytes_eq p.name j.port) js == 1) l.ports n p each e in
    ap (λ m. count_by (λ (j : Join). bytes_eq m j.port) js) both.1
    ∙ eqb-true (count_by (λ (j : Join). bytes_eq p.name j.port) js) 1 both.0

not-register : (l : Leaf) (n : Name) → is_kind is_register (leaf_lines l) n ≡ true
    → is_input_port (port_named l.ports n) ≡ false
not-register l n k = go (port_named l.ports n) refl
  where
    way : (b : Bool) → is_register (way_of b) ≡ false
    way true = refl
    way false = refl

    go : (o : Option Port) → port_named l.ports n ≡ o → is_input_port (port_named l.ports n) ≡ false
    go None is = ap is_input_port is
    go (Some p) is =
        absurd (both_ways (is_kind is_register (leaf_lines l) n) (ap (kind_passes is_register) (leaf-port l n p is) ∙ way p.output) k)

register-free : (l : Leaf) (n : Name) → is_kind is_register (leaf_lines l) n ≡ true
    → is_kind is_driven (leaf_lines l) n ≡ false
register-free l n k = let what = kind-of is_register (leaf_lines l) n k in ap (kind_passes is_driven) what.1 ∙ kinds what.0.kind what.2
  where
    kinds : (c : Kind) → is_register c ≡ true → is_driven c ≡ false
    kinds Input e = refl
    kinds Output e = absurd (false≢true e)
    kinds Inner e = absurd (false≢true e)
    kinds Register e = refl
    kinds Memory e = refl
    kinds Child e = refl

-- ---- an instance that is fed by the top

fed-other : (l : Leaf) (js : List Join) (top : Name → ℕ) (v : Values) (m : Name)
    → is_input_port (port_named l.ports m) ≡ false → (fed l js top v).net m ≡ v.net m
fed-other l js top v m e = rw e refl

fed-here : (l : Leaf) (js : List Join) (top : Name → ℕ) (v : Values) (m : Name) (p : Port) (j : Join)
    → port_named l.ports m ≡ Some p → p.output ≡ false → find (λ (k : Join). bytes_eq m k.port) js ≡ Some j
    → (fed l js top v).net m ≡ top j.net
fed-here l js top v m p j named out at =
    ap (λ o. if is_input_port o then net_of_join (find (λ (k : Join). bytes_eq m k.port) js) top (v.net m) else v.net m) named
    ∙ ap (λ b. if (if b then false else true) then net_of_join (find (λ (k : Join). bytes_eq m k.port) js) top (v.net m) else v.net m) out
    ∙ ap (λ o. net_of_join o top (v.net m)) at

fed-small : (all : List Line) (l : Leaf) (n : Name) (js : List Join) (top : Name → ℕ) (v : Values)
    → GoodInstance all l n js → ((m : Name) → top m < 2 ^ (widths all).net m) → AreSmall (leaf_widths l) v
    → AreSmall (leaf_widths l) (fed l js top v)
fed-small all l n js top v g low small = record { net = λ m. go m (port_named l.ports m) refl; word = small.word }
  where
    joined : (m : Name) (p : Port) → port_named l.ports m ≡ Some p → (o : Option Join)
        → find (λ (k : Join). bytes_eq m k.port) js ≡ o → net_of_join o top (v.net m) < 2 ^ (leaf_widths l).net m
    joined m p named None at = small.net m
    joined m p named (Some j) at =
        let has =
        found-has (λ (k : Join). bytes_eq m k.port) (GoodJoin all l) js j at (all-map (GoodJoin all l) (λ k. bytes_eq m k.port ≡ true → GoodJoin all l k) (λ k h e. h) js g.joins) in
        let same : port_named l.ports m ≡ Some has.1.port =
        ap (port_named l.ports) (one-name m j.port has.0) ∙ has.1.named in
        subst (λ w. top j.net < 2 ^ w) (sym has.1.wide ∙ sym (port-bits l m has.1.port same)) (low j.net)

    ways : (m : Name) (p : Port) → port_named l.ports m ≡ Some p → (b : Bool) → p.output ≡ b
        → (fed l js top v).net m < 2 ^ (leaf_widths l).net m
    ways m p named true out =
        subst (λ x. x < 2 ^ (leaf_widths l).net m) (sym (fed-other l js top v m (ap is_input_port named ∙ ap (λ b. if b then false else true) out))) (small.net m)
    ways m p named false out =
        subst (λ x. x < 2 ^ (leaf_widths l).net m)
        (sym (ap (λ o. if is_input_port o then net_of_join (find (λ (k : Join). bytes_eq m k.port) js) top (v.net m) else v.net m) named
        ∙ ap (λ b. if (if b then false else true) then net_of_join (find (λ (k : Join). bytes_eq m k.port) js) top (v.net m) else v.net m) out))
        (joined m p named (find (λ (k : Join). bytes_eq m k.port) js) refl)

    go : (m : Name) (o : Option Port) → port_named l.ports m ≡ o → (fed l js top v).net m < 2 ^ (leaf_widths l).net m
    go m None named =
        subst (λ x. x < 2 ^ (leaf_widths l).net m) (sym (fed-other l js top v m (ap is_input_port named))) (small.net m)
    go m (Some p) named = ways m p named p.output refl

-- the outputs of the second turn are those of the first
turns-same : (l : Leaf) (js : List Join) (top : Name → ℕ) (v : Values) → GoodLeaf l → (n : Name) (p : Port)
    → port_named l.ports n ≡ Some p → p.output ≡ true
    → (settled_in l js top v).net n ≡ (turn l v).net n
turns-same l js top v g n p named out =
    outputs-same l g (fed l js top v) v (λ m i. refl) (λ m e. fed-other l js top v m e) n p named out

-- what a join that drives says
pub drives-parts : (all : List Line) (l : Leaf) (n : Name) (j : Join) → GoodJoin all l j → join_drives l n j ≡ true
    → (n ≡ j.net) × ((p : Port) × (port_named l.ports j.port ≡ Some p) × (p.output ≡ true) × (p.high + 1 ≡ (widths all).net j.net) × (is_kind is_driven all j.net ≡ true))
drives-parts all l n j g e =
    let both = and_parts (bytes_eq n j.net) (is_output_port (port_named l.ports j.port)) e in
    let out : g.port.output ≡ true = subst (λ o. is_output_port o ≡ true) g.named both.1 in
    (one-name n j.net both.0, (g.port, g.named, out, g.wide, g.driven out))

-- ---- the whole design

named-plain : (ls : List Leaf) (n : Name) (l : Leaf) → list_all plain_leaf ls ≡ true → leaf_named ls n ≡ Some l
    → list_all plain_item l.items ≡ true
named-plain [] n l a e = absurd (none-some l e)
named-plain (x ∷ ls) n l a e = go (named-plain ls n l) (bytes_eq n x.name) refl
  where
    both : (plain_leaf x ≡ true) × (list_all plain_leaf ls ≡ true)
    both = and_parts (plain_leaf x) (list_all plain_leaf ls) a

    go : (list_all plain_leaf ls ≡ true → leaf_named ls n ≡ Some l → list_all plain_item l.items ≡ true) → (b : Bool)
        → bytes_eq n x.name ≡ b → list_all plain_item l.items ≡ true
    go rest true is =
        let one : x ≡ l = cc (rw is at e) in
        subst (λ (y : Leaf). list_all plain_item y.items ≡ true) one (and_parts (is_name x.name && list_all plain_port x.ports) (list_all plain_item x.items) both.0).1
    go rest false is = rest both.1 (rw is at e)

ports-none : (ls : List Leaf) (ps : List Port) (m : Name) → drivers ls (map port ps) m ≡ 0
ports-none ls [] m = refl
ports-none ls (p ∷ ps) m = let rest = ports-none ls ps m in omega arith

module _ (d : Design) (sound : IsSound d) where
  ls : List Leaf
  ls = d.leaves

  all : List Line
  all = top_lines d.top

  before : List Line
  before = heading (codes "noc") ∷ map port d.top.ports

  pub good : Each d.leaves (GoodInstance (top_lines d.top)) d.top.items
  good =
      let m = top-sound d sound.rules in
      good-instances d.leaves (top_lines d.top) (heading (codes "noc") ∷ map port d.top.ports) d.top.items refl
      (λ n l e. good-leaf l (named-plain d.leaves n l (and_parts (list_all plain_leaf d.leaves) (list_all plain_port d.top.ports) (and_parts (list_all plain_leaf d.leaves && list_all plain_port d.top.ports) (list_all plain_top_item d.top.items) (is_plain_design d sound.plain)).0).0 e) (leaf-sound d sound.rules n l e))
      (passes-behind name_unknown d.leaves (top_lines d.top) [] (heading (codes "noc") ∷ map port d.top.ports) (map joint d.top.items) m.known)
      (passes-behind wrong_width d.leaves (top_lines d.top) [] (heading (codes "noc") ∷ map port d.top.ports) (map joint d.top.items) m.width)
      (passes-behind wrong_joins d.leaves (top_lines d.top) [] (heading (codes "noc") ∷ map port d.top.ports) (map joint d.top.items) m.joins)

  pub known : Known d.leaves d.top.items
  known = each-map d.leaves (GoodInstance (top_lines d.top)) (λ l n js. Unit {0}) (λ l n js g. tt) d.top.items good

  pub found-here : (f : Option Leaf → Name → List Join → Values) (other : Name → Values)
      → Each d.leaves (λ l i js. by_name d.leaves d.top.items f other i ≡ f (Some l) i js) d.top.items
  found-here f other =
      found-at d.leaves (top_lines d.top) (heading (codes "noc") ∷ map port d.top.ports) d.top.items f other known
      (passes-behind name_twice d.leaves (top_lines d.top) [] (heading (codes "noc") ∷ map port d.top.ports) (map joint d.top.items) (top-sound d sound.rules).once)

  pub at-name : (top : Name → ℕ) (inside : Name → Values)
      → Each d.leaves (λ l i js. inside_settled d.leaves d.top.items top inside i ≡ settled_in l js top (inside i)) d.top.items
  at-name top inside = found-here (λ l n js. instance_settled l js top (inside n)) inside

  pub plain-leaf : (n : Name) (l : Leaf) → leaf_named d.leaves n ≡ Some l → list_all plain_item l.items ≡ true
  plain-leaf n l e =
      named-plain d.leaves n l (and_parts (list_all plain_leaf d.leaves) (list_all plain_port d.top.ports) (and_parts (list_all plain_leaf d.leaves && list_all plain_port d.top.ports) (list_all plain_top_item d.top.items) (is_plain_design d sound.plain)).0).0 e

  -- a net of the top that wants a driver has one, among the instances
  pub one-driver : (n : Name) (x : Declared) → lookup (top_lines d.top) n ≡ Some x → wants_driver x.kind ≡ true
      → drivers d.leaves (map joint d.top.items) n ≡ 1
  one-driver n x e wants =
      let one : drivers d.leaves (top_lines d.top) n ≡ 1 =
      driven-once d.leaves (top_lines d.top) n x (top-sound d sound.rules).driver e wants in
      let parts : drivers d.leaves (top_lines d.top) n ≡ drivers d.leaves (heading (codes "noc") ∷ map port d.top.ports) n + drivers d.leaves (map joint d.top.items) n =
      drivers-append d.leaves (heading (codes "noc") ∷ map port d.top.ports) (map joint d.top.items) n in
      let none : drivers d.leaves (map port d.top.ports) n ≡ 0 = ports-none d.leaves d.top.ports n in
      let first : drivers d.leaves (heading (codes "noc") ∷ map port d.top.ports) n ≡ 0 = omega arith in
      omega arith

same-functions : (f g : Name → ℕ) → ((n : Name) → f n ≡ g n) → f ≡ g
same-functions f g h = λ i n. h n i

module _ (d : Design) (sound : IsSound d) (s : Nets) (small : AreSmallNets d s) where
  -- the first turn's outputs fit the nets
  out-small : (n : Name)
      → Each d.leaves (λ l i js. AllByRecursion (λ (j : Join). join_drives l n j ≡ true → (turn l (s.inside i)).net j.port < 2 ^ (widths (top_lines d.top)).net n) js) d.top.items
  out-small n =
      each-both d.leaves (GoodInstance (top_lines d.top)) (λ l i js. AreSmall (leaf_widths l) (s.inside i))
      (λ l i js. AllByRecursion (λ (j : Join). join_drives l n j ≡ true → (turn l (s.inside i)).net j.port < 2 ^ (widths (top_lines d.top)).net n) js)
      (λ l i js g v. all-map (GoodJoin (top_lines d.top) l) (λ (j : Join). join_drives l n j ≡ true → (turn l (s.inside i)).net j.port < 2 ^ (widths (top_lines d.top)).net n)
      (λ j h e.
      let parts = drives-parts (top_lines d.top) l n j h e in
      let w : (leaf_widths l).net j.port ≡ (widths (top_lines d.top)).net n =
      port-bits l j.port parts.1.0 parts.1.1 ∙ parts.1.3 ∙ ap (widths (top_lines d.top)).net (sym parts.0) in
      subst (λ k. (turn l (s.inside i)).net j.port < 2 ^ k) w ((settled-right l g.leaf (s.inside i) v).small.net j.port)) js g.joins)
      d.top.items (good d sound) small.inside

  top-small : (n : Name) → top_value d s n < 2 ^ (widths (top_lines d.top)).net n
  top-small n =
      net-has d.leaves s.inside (λ x. x < 2 ^ (widths (top_lines d.top)).net n) n (s.top n) d.top.items (λ e. small.top n) (out-small n)

  -- a top's input port keeps its number
  top-input : (n : Name) → is_kind is_input (top_lines d.top) n ≡ true → top_value d s n ≡ s.top n
  top-input n k =
      net-has d.leaves s.inside (λ x. x ≡ s.top n) n (s.top n) d.top.items (λ e. refl)
      (each-map d.leaves (GoodInstance (top_lines d.top)) (λ l i js. AllByRecursion (λ (j : Join). join_drives l n j ≡ true → (turn l (s.inside i)).net j.port ≡ s.top n) js)
      (λ l i js g. all-map (GoodJoin (top_lines d.top) l) (λ (j : Join). join_drives l n j ≡ true → (turn l (s.inside i)).net j.port ≡ s.top n)
      (λ j h e.
      let parts = drives-parts (top_lines d.top) l n j h e in
      absurd (input-driven n k (ap (is_kind is_driven (top_lines d.top)) parts.0 ∙ parts.1.4))) js g.joins)
      d.top.items (good d sound))
    where
      kinds : (c : Kind) → is_input c ≡ true → is_driven c ≡ true → ⊥
      kinds Input a b = false≢true b
      kinds Output a b = false≢true a
      kinds Inner a b = false≢true a
      kinds Register a b = false≢true a
      kinds Memory a b = false≢true a
      kinds Child a b = false≢true a

      input-driven : (n : Name) → is_kind is_input (top_lines d.top) n ≡ true
          → is_kind is_driven (top_lines d.top) n ≡ true → ⊥
      input-driven n a b =
          let what = kind-of is_input (top_lines d.top) n a in
          kinds what.0.kind what.2 (sym (ap (kind_passes is_driven) what.1) ∙ b)

  inside-right : Each d.leaves (λ l i js. IsRightIn l (inside_settled d.leaves d.top.items (top_value d s) s.inside i)) d.top.items
  inside-right =
      each-both d.leaves (λ l i js. GoodInstance (top_lines d.top) l i js × AreSmall (leaf_widths l) (s.inside i)) (λ l i js. inside_settled d.leaves d.top.items (top_value d s) s.inside i ≡ settled_in l js (top_value d s) (s.inside i))
      (λ l i js. IsRightIn l (inside_settled d.leaves d.top.items (top_value d s) s.inside i))
      (λ l i js g e. subst (IsRightIn l) (sym e) (settled-right l g.0.leaf (fed l js (top_value d s) (s.inside i)) (fed-small (top_lines d.top) l i js (top_value d s) (s.inside i) g.0 top-small g.1)))
      d.top.items
      (each-both d.leaves (GoodInstance (top_lines d.top)) (λ l i js. AreSmall (leaf_widths l) (s.inside i)) (λ l i js. GoodInstance (top_lines d.top) l i js × AreSmall (leaf_widths l) (s.inside i)) (λ l i js g v. (g, v)) d.top.items (good d sound) small.inside)
      (at-name d sound (top_value d s) s.inside)

  -- every net with one driver
  pulled : Each d.leaves (λ l i js. (x : (n : Name) × (drivers d.leaves (map joint d.top.items) n ≡ 1)) → AllByRecursion (λ (j : Join). join_drives l x.0 j ≡ true → top_value d s x.0 ≡ (turn l (s.inside i)).net j.port) js) d.top.items
  pulled =
      each-pull {X = (n : Name) × (drivers d.leaves (map joint d.top.items) n ≡ 1)} d.leaves
      (λ x l i js. AllByRecursion (λ (j : Join). join_drives l x.0 j ≡ true → top_value d s x.0 ≡ (turn l (s.inside i)).net j.port) js)
      d.top.items (known d sound) (λ x. net-one d.leaves s.inside x.0 (s.top x.0) d.top.items (known d sound) x.1)

  abbrev JoinedHere : Leaf → Name → List Join → Type 0
  JoinedHere l i js = AllByRecursion (Joined (settled_in l js (top_value d s) (s.inside i)) (top_value d s)) js

  join-holds : (l : Leaf) (i : Name) (js : List Join) (g : GoodInstance (top_lines d.top) l i js) (j : Join)
      (h : GoodJoin (top_lines d.top) l j)
      → ((x : (n : Name) × (drivers d.leaves (map joint d.top.items) n ≡ 1)) → join_drives l x.0 j ≡ true → top_value d s x.0 ≡ (turn l (s.inside i)).net j.port)
      → ((x : (n : Name) × (count_by (λ (k : Join). bytes_eq n k.port) js ≡ 1)) → bytes_eq x.0 j.port ≡ true → find (λ (k : Join). bytes_eq x.0 k.port) js ≡ Some j)
      → (b : Bool) → h.port.output ≡ b → (settled_in l js (top_value d s) (s.inside i)).net j.port ≡ top_value d s j.net
  join-holds l i js g j h drives finds true out =
      let what = kind-of is_driven (top_lines d.top) j.net (h.driven out) in
      let one : drivers d.leaves (map joint d.top.items) j.net ≡ 1 =
      one-driver d sound j.net what.0 what.1 (driven-wants what.0.kind what.2) in
      turns-same l js (top_value d s) (s.inside i) g.leaf j.port h.port h.named out
      ∙ sym (drives (j.net, one) (and_from (bytes_eq j.net j.net) (is_output_port (port_named l.ports j.port)) (itself j.net) (ap is_output_port h.named ∙ out)))
  join-holds l i js g j h drives finds false out =
      settled-keeps l g.leaf (fed l js (top_value d s) (s.inside i)) j.port (ap (kind_passes is_driven) (leaf-port l j.port h.port h.named) ∙ ap (λ b. is_driven (way_of b)) out)
      ∙ fed-here l js (top_value d s) (s.inside i) j.port h.port j h.named out (finds (j.port, port-join l js g.each j.port h.port h.named) (itself j.port))

  joins-hold : (l : Leaf) (i : Name) (js : List Join) (g : GoodInstance (top_lines d.top) l i js)
      → ((x : (n : Name) × (drivers d.leaves (map joint d.top.items) n ≡ 1)) → AllByRecursion (λ (j : Join). join_drives l x.0 j ≡ true → top_value d s x.0 ≡ (turn l (s.inside i)).net j.port) js)
      → JoinedHere l i js
  joins-hold l i js g pull =
      let all-drives =
      all-pull {X = (n : Name) × (drivers d.leaves (map joint d.top.items) n ≡ 1)} (λ x (j : Join). join_drives l x.0 j ≡ true → top_value d s x.0 ≡ (turn l (s.inside i)).net j.port) js pull in
      let all-finds = all-pull {X = (n : Name) × (count_by (λ (k : Join). bytes_eq n k.port) js ≡ 1)} (λ x (j : Join). bytes_eq x.0 j.port ≡ true → find (λ (k : Join). bytes_eq x.0 k.port) js ≡ Some j) js
      (λ x. one-found (λ (k : Join). bytes_eq x.0 k.port) js x.1) in
      all-both (GoodJoin (top_lines d.top) l)
      (λ (j : Join). ((x : (n : Name) × (drivers d.leaves (map joint d.top.items) n ≡ 1)) → join_drives l x.0 j ≡ true → top_value d s x.0 ≡ (turn l (s.inside i)).net j.port)
      × ((x : (n : Name) × (count_by (λ (k : Join). bytes_eq n k.port) js ≡ 1)) → bytes_eq x.0 j.port ≡ true → find (λ (k : Join). bytes_eq x.0 k.port) js ≡ Some j))
      (Joined (settled_in l js (top_value d s) (s.inside i)) (top_value d s))
      (λ j h two. join-holds l i js g j h two.0 two.1 h.port.output refl) js g.joins
      (all-both (λ (j : Join). (x : (n : Name) × (drivers d.leaves (map joint d.top.items) n ≡ 1)) → join_drives l x.0 j ≡ true → top_value d s x.0 ≡ (turn l (s.inside i)).net j.port)
      (λ (j : Join). (x : (n : Name) × (count_by (λ (k : Join). bytes_eq n k.port) js ≡ 1)) → bytes_eq x.0 j.port ≡ true → find (λ (k : Join). bytes_eq x.0 k.port) js ≡ Some j)
      (λ (j : Join). ((x : (n : Name) × (drivers d.leaves (map joint d.top.items) n ≡ 1)) → join_drives l x.0 j ≡ true → top_value d s x.0 ≡ (turn l (s.inside i)).net j.port)
      × ((x : (n : Name) × (count_by (λ (k : Join). bytes_eq n k.port) js ≡ 1)) → bytes_eq x.0 j.port ≡ true → find (λ (k : Join). bytes_eq x.0 k.port) js ≡ Some j))
      (λ j a b. (a, b)) js all-drives all-finds)

  all-joined : Each d.leaves (λ l i js. AllByRecursion (Joined (inside_settled d.leaves d.top.items (top_value d s) s.inside i) (top_value d s)) js) d.top.items
  all-joined =
      each-both d.leaves JoinedHere (λ l i js. inside_settled d.leaves d.top.items (top_value d s) s.inside i ≡ settled_in l js (top_value d s) (s.inside i))
      (λ l i js. AllByRecursion (Joined (inside_settled d.leaves d.top.items (top_value d s) s.inside i) (top_value d s)) js)
      (λ l i js a e. subst (λ v. AllByRecursion (Joined v (top_value d s)) js) (sym e) a) d.top.items
      (each-both d.leaves (GoodInstance (top_lines d.top)) (λ l i js. (x : (n : Name) × (drivers d.leaves (map joint d.top.items) n ≡ 1)) → AllByRecursion (λ (j : Join). join_drives l x.0 j ≡ true → top_value d s x.0 ≡ (turn l (s.inside i)).net j.port) js)
      JoinedHere joins-hold d.top.items (good d sound) pulled)
      (at-name d sound (top_value d s) s.inside)

  is-right : IsRight d (settled d s)
  unfolding settled
  is-right = record { top = top-small; inside = inside-right; joined = all-joined }

  -- ---- the state

  kept-here : Each d.leaves (λ l i js. SameKept l (s.inside i) (inside_settled d.leaves d.top.items (top_value d s) s.inside i)) d.top.items
  kept-here =
      each-both d.leaves (GoodInstance (top_lines d.top)) (λ l i js. inside_settled d.leaves d.top.items (top_value d s) s.inside i ≡ settled_in l js (top_value d s) (s.inside i))
      (λ l i js. SameKept l (s.inside i) (inside_settled d.leaves d.top.items (top_value d s) s.inside i))
      (λ l i js g e. subst (SameKept l (s.inside i)) (sym e) (record {
        register = λ n k. sym (settled-keeps l g.leaf (fed l js (top_value d s) (s.inside i)) n (register-free l n k) ∙ fed-other l js (top_value d s) (s.inside i) n (not-register l n k));
        word = λ n x. sym (ap (λ f. f n x) (settle-word (leaf_widths l) (fed l js (top_value d s) (s.inside i)) l.items));
      })) d.top.items (good d sound) (at-name d sound (top_value d s) s.inside)

  same-state : SameState d s (settled d s)
  unfolding settled
  same-state = record { inside = kept-here; inputs = top-input }

  -- ---- no other one

  module _ (u : Nets) (right : IsRight d u) (state : SameState d s u) where
    input-number : (l : Leaf) (i : Name) (js : List Join) → GoodInstance (top_lines d.top) l i js
        → AllByRecursion (Joined (u.inside i) u.top) js → (m : Name) → is_kind is_input (leaf_lines l) m ≡ true
        → (u.inside i).net m ≡ (fed l js u.top (s.inside i)).net m
    input-number l i js g joined m k = go (find (λ (j : Join). bytes_eq m j.port) js) refl
      where
        p : (p : Port) × (port_named l.ports m ≡ Some p) × (p.output ≡ false)
        p = leaf-input l m k

        go : (o : Option Join) → find (λ (j : Join). bytes_eq m j.port) js ≡ o
            → (u.inside i).net m ≡ (fed l js u.top (s.inside i)).net m
        go None at =
            let one = port-join l js g.each m p.0 p.1 in
            let none = found-zero (λ (j : Join). bytes_eq m j.port) js at in
            absurd (omega arith)
        go (Some j) at =
            let has =
            found-has (λ (j : Join). bytes_eq m j.port) (Joined (u.inside i) u.top) js j at (all-map (Joined (u.inside i) u.top) (λ k. bytes_eq m k.port ≡ true → Joined (u.inside i) u.top k) (λ k h e. h) js joined) in
            ap (u.inside i).net (one-name m j.port has.0) ∙ has.1
            ∙ sym (fed-here l js u.top (s.inside i) m p.0 j p.1 p.2 at)

    abbrev Fact : Leaf → Name → List Join → Type 0
    Fact l i js =
        GoodInstance (top_lines d.top) l i js × AreSmall (leaf_widths l) (s.inside i) × IsRightIn l (u.inside i) × SameKept l (s.inside i) (u.inside i) × AllByRecursion (Joined (u.inside i) u.top) js

    facts : Each d.leaves Fact d.top.items
    facts =
        each-both d.leaves (λ l i js. GoodInstance (top_lines d.top) l i js × AreSmall (leaf_widths l) (s.inside i)) (λ l i js. IsRightIn l (u.inside i) × SameKept l (s.inside i) (u.inside i) × AllByRecursion (Joined (u.inside i) u.top) js) Fact
        (λ l i js a b. (a.0, a.1, b.0, b.1, b.2)) d.top.items
        (each-both d.leaves (GoodInstance (top_lines d.top)) (λ l i js. AreSmall (leaf_widths l) (s.inside i)) (λ l i js. GoodInstance (top_lines d.top) l i js × AreSmall (leaf_widths l) (s.inside i)) (λ l i js g v. (g, v)) d.top.items (good d sound) small.inside)
        (each-both d.leaves (λ l i js. IsRightIn l (u.inside i)) (λ l i js. SameKept l (s.inside i) (u.inside i) × AllByRecursion (Joined (u.inside i) u.top) js)
        (λ l i js. IsRightIn l (u.inside i) × SameKept l (s.inside i) (u.inside i) × AllByRecursion (Joined (u.inside i) u.top) js) (λ l i js a b. (a, b.0, b.1)) d.top.items right.inside
        (each-both d.leaves (λ l i js. SameKept l (s.inside i) (u.inside i)) (λ l i js. AllByRecursion (Joined (u.inside i) u.top) js) (λ l i js. SameKept l (s.inside i) (u.inside i) × AllByRecursion (Joined (u.inside i) u.top) js) (λ l i js a b. (a, b)) d.top.items state.inside right.joined))

    inside-number : (l : Leaf) (i : Name) (js : List Join) → Fact l i js → (m : Name)
        → (u.inside i).net m ≡ (settled_in l js u.top (s.inside i)).net m
    inside-number l i js f m =
        right-settled l f.0.leaf (fed l js u.top (s.inside i)) (u.inside i) (fed-small (top_lines d.top) l i js u.top (s.inside i) f.0 right.top f.1) f.2
        (λ n x. sym (f.3.word n x)) (λ n k. sym (f.3.register n k) ∙ sym (fed-other l js u.top (s.inside i) n (not-register l n k))) (input-number l i js f.0 f.4) m

    driven-number : (n : Name) → drivers d.leaves (map joint d.top.items) n ≡ 1 → u.top n ≡ top_value d s n
    driven-number n one =
        net-has d.leaves s.inside (λ x. u.top n ≡ x) n (s.top n) d.top.items (λ none. absurd (omega arith))
        (each-map d.leaves Fact (λ l i js. AllByRecursion (λ (j : Join). join_drives l n j ≡ true → u.top n ≡ (turn l (s.inside i)).net j.port) js)
        (λ l i js f. all-both (GoodJoin (top_lines d.top) l) (Joined (u.inside i) u.top) (λ (j : Join). join_drives l n j ≡ true → u.top n ≡ (turn l (s.inside i)).net j.port)
        (λ j h joined e.
        let parts = drives-parts (top_lines d.top) l n j h e in
        ap u.top parts.0 ∙ sym joined ∙ inside-number l i js f j.port ∙ turns-same l js u.top (s.inside i) f.0.leaf j.port parts.1.0 parts.1.1 parts.1.2) js f.0.joins f.4)
        d.top.items facts)

    zero-both : (n : Name) → (widths (top_lines d.top)).net n ≡ 0 → u.top n ≡ top_value d s n
    zero-both n e =
        below-one (u.top n) (subst (λ w. u.top n < 2 ^ w) e (right.top n))
        ∙ sym (below-one (top_value d s n) (subst (λ w. top_value d s n < 2 ^ w) e (top-small n)))

    kinds : (n : Name) (x : Declared) → lookup (top_lines d.top) n ≡ Some x → (c : Kind) → x.kind ≡ c
        → u.top n ≡ top_value d s n
    kinds n x is Input e = let k : is_kind is_input (top_lines d.top) n ≡ true = ap (kind_passes is_input) is ∙ ap is_input e in state.inputs n k ∙ sym (top-input n k)
    kinds n x is Output e = driven-number n (one-driver d sound n x is (ap wants_driver e))
    kinds n x is Inner e = driven-number n (one-driver d sound n x is (ap wants_driver e))
    kinds n x is Register e = driven-number n (one-driver d sound n x is (ap wants_driver e))
    kinds n x is Memory e = zero-both n (ap net_bits is ∙ ap (λ c. if is_net c then x.high + 1 else 0) e)
    kinds n x is Child e = zero-both n (ap net_bits is ∙ ap (λ c. if is_net c then x.high + 1 else 0) e)

    top-number : (n : Name) → u.top n ≡ top_value d s n
    top-number n = go (lookup (top_lines d.top) n) refl
      where
        go : (o : Option Declared) → lookup (top_lines d.top) n ≡ o → u.top n ≡ top_value d s n
        go None is = zero-both n (ap net_bits is)
        go (Some x) is = kinds n x is x.kind refl

    same-nets : SameNets d u (settled d s)
    unfolding settled
    same-nets = record {
      top = top-number;
      inside = each-both d.leaves Fact (λ l i js. inside_settled d.leaves d.top.items (top_value d s) s.inside i ≡ settled_in l js (top_value d s) (s.inside i))
          (λ l i js. ((m : Name) → (u.inside i).net m ≡ (inside_settled d.leaves d.top.items (top_value d s) s.inside i).net m)
          × ((m : Name) (x : ℕ) → (u.inside i).word m x ≡ (inside_settled d.leaves d.top.items (top_value d s) s.inside i).word m x))
          (λ l i js f e. (
            (λ m. inside-number l i js f m ∙ ap (λ t. (settled_in l js t (s.inside i)).net m) (same-functions u.top (top_value d s) top-number) ∙ ap (λ v. v.net m) (sym e)),
            (λ m x. sym (f.3.word m x) ∙ sym (ap (λ g. g m x) (settle-word (leaf_widths l) (fed l js (top_value d s) (s.inside i)) l.items)) ∙ ap (λ v. v.word m x) (sym e)),
          )) d.top.items facts (at-name d sound (top_value d s) s.inside);
    }

pub one-valuation : OneValuation
one-valuation d sound s small =
    (is-right d sound s small, same-state d sound s small, λ u right state. same-nets d sound s small u right state)
