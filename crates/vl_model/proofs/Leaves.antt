-- A sound leaf: its assigns give one right valuation, and its outputs do not depend on its inputs.
use Rattle.std.proofs.Common.{◌≡◌, ℕ, ◌+◌, ◌<◌, ◌^◌, Bool, true, false, ◌&&◌, List, [], ◌∷◌, ◌++◌, map, Option, refl, sym, ◌∙◌, ap, subst, bytes_eq, cond, arith}
use Rattle.std.specs.Prelude.{Some, None, if◌then◌else◌}
use Rattle.std.specs.List.{AllByRecursion, list_any, list_all}
use Rattle.std.proofs.lemmas.Option.{none-some}
use Rattle.std.proofs.lemmas.Bool.{or_left, or_right, both_ways, false≢true}
use Rattle.vl_tree.specs.declared.tree.Port.{Port}
use Rattle.vl_tree.specs.Values.{Name, Item, wire, reg, mem, assign, clocked, store, Leaf}
use Rattle.vl_tree.specs.Plain.{plain_item}
use Rattle.vl_model.specs.Meaning.{Values, nets_of}
use Rattle.vl_model.specs.declared.kind.Kind.{Kind}
use Rattle.vl_model.specs.declared.kind.Kind.TheVariants.{Input, Output, Inner, Register, Memory, Child}
use Rattle.vl_model.specs.Lines.{Line, heading, port, item, joint, sites_behind, leaf_lines, Declared, found, lookup, kind_passes, way_of, is_net, is_driven, is_register, is_input, net_bits, port_named}
use Rattle.vl_model.specs.Rules.{is_kind, name_unknown, wrong_width, wrong_order, drivers, depending, all_depending, goes_through}
use Rattle.vl_model.specs.Leaf.{leaf_widths, AreSmall, IsRightIn}
use Rattle.vl_model.specs.Settle.{settle, is_input_port}
use Rattle.vl_model.specs.Order.{is_assigned, InOrder}
use Rattle.vl_model.proofs.Passed.{Passes, passes-behind, passes-before, SoundModule, SoundLeaf}
use Rattle.vl_model.proofs.Settling.{one-name, Tight, settle-outside, settle-holds, settle-only, settle-small, settle-apart}
use Rattle.vl_model.proofs.Ordered.{kind-of, driven-once, driven-wants, drivers-append, never-driven, none-drives, in-order, tight}

-- the lines before a leaf's items
abbrev pub front : Leaf → List Line
front l = heading l.name ∷ map port l.ports

-- what is used of a sound leaf
pub record GoodLeaf (l : Leaf) : Type 0 where
  pub order : InOrder l.items
  pub tight : AllByRecursion (Tight (leaf_widths l)) l.items
  pub free : (m : Name) → is_kind is_driven (leaf_lines l) m ≡ false → is_assigned l.items m ≡ false
  pub driven : (m : Name) → is_kind is_driven (leaf_lines l) m ≡ true → is_assigned l.items m ≡ true
  pub through : (n : Name) (p : Port) → port_named l.ports n ≡ Some p → p.output ≡ true
      → list_any (bytes_eq n) (all_depending [] (leaf_lines l)) ≡ false

-- ports and headings assign nothing
ports-drive-none : (ls : List Leaf) (ps : List Port) (m : Name) → drivers ls (map port ps) m ≡ 0
ports-drive-none ls [] m = refl
ports-drive-none ls (p ∷ ps) m = let rest = ports-drive-none ls ps m in omega arith

pub front-drives-none : (ls : List Leaf) (l : Leaf) (m : Name) → drivers ls (front l) m ≡ 0
front-drives-none ls l m = let rest = ports-drive-none ls l.ports m in omega arith

-- the first port of the name
pub named-cases : {X : Type 0} (p : Port) (ps : List Port) (n : Name) (q : Port) → port_named (p ∷ ps) n ≡ Some q
    → (bytes_eq n p.name ≡ true → p ≡ q → X) → (bytes_eq n p.name ≡ false → port_named ps n ≡ Some q → X) → X
named-cases {X = X} p ps n q e here other = go (bytes_eq n p.name) refl
  where
    go : (b : Bool) → bytes_eq n p.name ≡ b → X
    go true is = here is (cc (subst (λ c. cond c (Some p) (port_named ps n) ≡ Some q) is e))
    go false is = other is (subst (λ c. cond c (Some p) (port_named ps n) ≡ Some q) is e)

-- no output port goes through
port-passes : (ls : List Leaf) (all before : List Line) (ps : List Port) (n : Name) (p : Port)
    → Passes goes_through (sites_behind ls all before (map port ps)) → port_named ps n ≡ Some p → p.output ≡ true
    → list_any (bytes_eq n) (all_depending [] all) ≡ false
unfolding goes_through
port-passes ls all before [] n p a e out = absurd (none-some p e)
port-passes ls all before (q ∷ ps) n p a e out =
    named-cases q ps n p e
    (λ is one. subst (λ m. list_any (bytes_eq m) (all_depending [] all) ≡ false) (sym (one-name n q.name is))
    (subst (λ b. (b && list_any (bytes_eq q.name) (all_depending [] all)) ≡ false) (ap (λ (r : Port). r.output) one ∙ out) a.0))
    (λ is rest. port-passes ls all (before ++ port q ∷ []) ps n p a.1 rest out)

pub good-leaf : (l : Leaf) → list_all plain_item l.items ≡ true → SoundLeaf l → GoodLeaf l
good-leaf l plain s = record {
  order = in-order ls all (front l) l.items refl m.driver known (passes-behind wrong_order ls all [] (front l) (map item l.items) m.order);
  tight = tight ls all (front l) l.items refl plain known (passes-behind wrong_width ls all [] (front l) (map item l.items) m.width);
  free = λ n k. never-driven ls all (front l) l.items n refl k known;
  driven = λ n k. assigned n k (is_assigned l.items n) refl;
  through = λ n p e out. port-passes ls all (heading l.name ∷ []) l.ports n p (passes-before goes_through ls all (heading l.name ∷ []) (map port l.ports) (map item l.items) m.through.1) e out;
}
  where
    ls : List Leaf
    ls = s.0

    all : List Line
    all = leaf_lines l

    m : SoundModule ls all
    m = s.1

    known : Passes name_unknown (sites_behind ls all (front l) (map item l.items))
    known = passes-behind name_unknown ls all [] (front l) (map item l.items) m.known

    assigned : (n : Name) → is_kind is_driven all n ≡ true → (b : Bool) → is_assigned l.items n ≡ b
        → is_assigned l.items n ≡ true
    assigned n k true e = e
    assigned n k false e =
        let what = kind-of is_driven all n k in
        let one : drivers ls all n ≡ 1 =
        driven-once ls all n what.0 m.driver what.1 (driven-wants what.0.kind what.2) in
        let none : drivers ls (map item l.items) n ≡ 0 = none-drives ls all (front l) l.items n refl k known e in
        let parts : drivers ls all n ≡ drivers ls (front l) n + drivers ls (map item l.items) n =
        drivers-append ls (front l) (map item l.items) n in
        let first : drivers ls (front l) n ≡ 0 = front-drives-none ls l n in
        absurd (omega arith)

-- ---- ports among the lines

lookup-port : (ps : List Port) (rest : List Line) (n : Name) (p : Port) → port_named ps n ≡ Some p
    → lookup (map port ps ++ rest) n ≡ Some (record { name = p.name; kind = way_of p.output; high = p.high; last = 0 })
lookup-port [] rest n p e = absurd (none-some p e)
lookup-port (q ∷ ps) rest n p e =
    named-cases q ps n p e
    (λ is one. rw is (ap (λ (r : Port). Some (record { name = r.name; kind = way_of r.output; high = r.high; last = 0 })) one))
    (λ is later. rw is (lookup-port ps rest n p later))

-- what a leaf's port is declared as
pub leaf-port : (l : Leaf) (n : Name) (p : Port) → port_named l.ports n ≡ Some p
    → lookup (leaf_lines l) n ≡ Some (record { name = p.name; kind = way_of p.output; high = p.high; last = 0 })
leaf-port l n p e = lookup-port l.ports (map item l.items) n p e

items-have-no-input : (is : List Item) (n : Name) (x : Declared) → lookup (map item is) n ≡ Some x
    → is_input x.kind ≡ true → ⊥
items-have-no-input [] n x e k = none-some x e
items-have-no-input (i ∷ is) n x e k = here i (items-have-no-input is n x) e
  where
    declares : (d : Declared) → is_input d.kind ≡ false → (lookup (map item is) n ≡ Some x → is_input x.kind ≡ true → ⊥)
        → found (Some d) n (lookup (map item is) n) ≡ Some x → ⊥
    declares d other later f = go (bytes_eq n d.name) refl
      where
        go : (b : Bool) → bytes_eq n d.name ≡ b → ⊥
        go true is' = let one : d ≡ x = cc (rw is' at f) in both_ways (is_input x.kind) (ap (λ (q : Declared). is_input q.kind) (sym one) ∙ other) k
        go false is' = later (rw is' at f) k

    here : (i : Item) → (lookup (map item is) n ≡ Some x → is_input x.kind ≡ true → ⊥)
        → lookup (item i ∷ map item is) n ≡ Some x → ⊥
    here (wire h m) later f = declares (record { name = m; kind = Inner; high = h; last = 0 }) refl later f
    here (reg h m) later f = declares (record { name = m; kind = Register; high = h; last = 0 }) refl later f
    here (mem h m last) later f = declares (record { name = m; kind = Memory; high = h; last = last }) refl later f
    here (assign m v) later f = later f k
    here (clocked m c v) later f = later f k
    here (store c m j v) later f = later f k

input-port : (ps : List Port) (is : List Item) (n : Name) (x : Declared)
    → lookup (map port ps ++ map item is) n ≡ Some x → is_input x.kind ≡ true
    → (p : Port) × (port_named ps n ≡ Some p) × (p.output ≡ false)
input-port [] is n x e k = absurd (items-have-no-input is n x e k)
input-port (q ∷ ps) is n x e k = go (input-port ps is n x) (bytes_eq n q.name) refl
  where
    way-in : (o : Bool) → is_input (way_of o) ≡ true → o ≡ false
    way-in true f = absurd (false≢true f)
    way-in false f = refl

    go : (lookup (map port ps ++ map item is) n ≡ Some x → is_input x.kind ≡ true → (p : Port) × (port_named ps n ≡ Some p) × (p.output ≡ false))
        → (b : Bool) → bytes_eq n q.name ≡ b
        → (p : Port) × (port_named (q ∷ ps) n ≡ Some p) × (p.output ≡ false)
    go later true is' =
        let one : record { name = q.name; kind = way_of q.output; high = q.high; last = 0 } ≡ x = cc (rw is' at e) in
        (q, rw is' refl, way-in q.output (ap (λ (d : Declared). is_input d.kind) one ∙ k))
    go later false is' = let r = later (rw is' at e) k in (r.0, rw is' r.1, r.2)

-- an input of a leaf is one of its input ports
pub leaf-input : (l : Leaf) (n : Name) → is_kind is_input (leaf_lines l) n ≡ true
    → (p : Port) × (port_named l.ports n ≡ Some p) × (p.output ≡ false)
leaf-input l n k = let what = kind-of is_input (leaf_lines l) n k in input-port l.ports l.items n what.0 what.1 what.2

-- ---- the inputs are among what depends on them

pub stays : (ns : List Name) (lines : List Line) (m : Name) → list_any (bytes_eq m) ns ≡ true
    → list_any (bytes_eq m) (all_depending ns lines) ≡ true
stays ns [] m e = e
stays ns (x ∷ lines) m e = stays (depending ns x) lines m (line x)
  where
    adds : (b : Bool) (n : Name) → list_any (bytes_eq m) (if b then n ∷ ns else ns) ≡ true
    adds true n = or_right (bytes_eq m n) (list_any (bytes_eq m) ns) e
    adds false n = e

    port-adds : (b : Bool) (n : Name) → list_any (bytes_eq m) (if b then ns else n ∷ ns) ≡ true
    port-adds true n = e
    port-adds false n = or_right (bytes_eq m n) (list_any (bytes_eq m) ns) e

    line : (x : Line) → list_any (bytes_eq m) (depending ns x) ≡ true
    line (heading n) = e
    line (port p) = port-adds p.output p.name
    line (item (wire h n)) = e
    line (item (reg h n)) = e
    line (item (mem h n last)) = e
    line (item (assign n v)) = adds (list_any (λ k. list_any (bytes_eq k) ns) (nets_of v)) n
    line (item (clocked n k v)) = e
    line (item (store c n i v)) = e
    line (joint y) = e

pub input-depends : (ns : List Name) (ps : List Port) (m : Name) (p : Port) → port_named ps m ≡ Some p
    → p.output ≡ false → list_any (bytes_eq m) (all_depending ns (map port ps)) ≡ true
input-depends ns [] m p e out = absurd (none-some p e)
input-depends ns (q ∷ ps) m p e out =
    named-cases q ps m p e
    (λ is one. stays (depending ns (port q)) (map port ps) m
    (subst (λ b. list_any (bytes_eq m) (if b then ns else q.name ∷ ns) ≡ true) (sym (ap (λ (r : Port). r.output) one ∙ out)) (or_left (bytes_eq m q.name) (list_any (bytes_eq m) ns) is)))
    (λ is later. input-depends (depending ns (port q)) ps m p later out)

pub depending-append : (ns : List Name) (a b : List Line)
    → all_depending ns (a ++ b) ≡ all_depending (all_depending ns a) b
depending-append ns [] b = refl
depending-append ns (x ∷ a) b = depending-append (depending ns x) a b

-- what agrees but at the inputs gives the same outputs
pub outputs-same : (l : Leaf) → GoodLeaf l → (v u : Values) → ((m : Name) (i : ℕ) → v.word m i ≡ u.word m i)
    → ((m : Name) → is_input_port (port_named l.ports m) ≡ false → v.net m ≡ u.net m)
    → (n : Name) (p : Port) → port_named l.ports n ≡ Some p → p.output ≡ true
    → (settle (leaf_widths l) v l.items).net n ≡ (settle (leaf_widths l) u l.items).net n
outputs-same l g v u words agree n p e out =
    settle-apart (leaf_widths l) v u inputs l.items words (λ m f. agree m (not-input m f (port_named l.ports m) refl)) n
    (subst (λ ns. list_any (bytes_eq n) ns ≡ false) (depending-append [] (front l) (map item l.items)) (g.through n p e out))
  where
    inputs : List Name
    inputs = all_depending [] (front l)

    way : (m : Name) (q : Port) → port_named l.ports m ≡ Some q → list_any (bytes_eq m) inputs ≡ false → (b : Bool)
        → q.output ≡ b → is_input_port (Some q) ≡ false
    way m q is f true o = rw o refl
    way m q is f false o = absurd (both_ways (list_any (bytes_eq m) inputs) f (input-depends [] l.ports m q is o))

    not-input : (m : Name) → list_any (bytes_eq m) inputs ≡ false → (o : Option Port) → port_named l.ports m ≡ o
        → is_input_port (port_named l.ports m) ≡ false
    not-input m f None is = ap is_input_port is
    not-input m f (Some q) is = ap is_input_port is ∙ way m q is f q.output refl

-- ---- right within a leaf

pub settled-right : (l : Leaf) → GoodLeaf l → (v : Values) → AreSmall (leaf_widths l) v
    → IsRightIn l (settle (leaf_widths l) v l.items)
settled-right l g v small =
    record { small = settle-small (leaf_widths l) v l.items g.tight small; assigned = settle-holds (leaf_widths l) v l.items g.order }

-- what no wire or output port is stays
pub settled-keeps : (l : Leaf) → GoodLeaf l → (v : Values) (m : Name) → is_kind is_driven (leaf_lines l) m ≡ false
    → (settle (leaf_widths l) v l.items).net m ≡ v.net m
settled-keeps l g v m k = settle-outside (leaf_widths l) v l.items m (g.free m k)

pub below-one : (x : ℕ) → x < 2 ^ 0 → x ≡ 0
below-one x h = omega arith

-- a right valuation is what its own registers, inputs and memories give
pub right-settled : (l : Leaf) → GoodLeaf l → (v u : Values) → AreSmall (leaf_widths l) v → IsRightIn l u
    → ((m : Name) (i : ℕ) → u.word m i ≡ v.word m i)
    → ((m : Name) → is_kind is_register (leaf_lines l) m ≡ true → u.net m ≡ v.net m)
    → ((m : Name) → is_kind is_input (leaf_lines l) m ≡ true → u.net m ≡ v.net m)
    → (m : Name) → u.net m ≡ (settle (leaf_widths l) v l.items).net m
right-settled l g v u small right words registers inputs m = settle-only (leaf_widths l) v u l.items g.order right.assigned words (λ k f. go k f (lookup (leaf_lines l) k) refl) m
  where
    zero-both : (k : Name) → net_bits (lookup (leaf_lines l) k) ≡ 0 → u.net k ≡ v.net k
    zero-both k e =
        below-one (u.net k) (subst (λ b. u.net k < 2 ^ b) e (right.small.net k))
        ∙ sym (below-one (v.net k) (subst (λ b. v.net k < 2 ^ b) e (small.net k)))

    kinds : (k : Name) (f : is_assigned l.items k ≡ false) (x : Declared) → lookup (leaf_lines l) k ≡ Some x
        → (c : Kind) → x.kind ≡ c → u.net k ≡ v.net k
    kinds k f x is Input e = inputs k (ap (kind_passes is_input) is ∙ ap is_input e)
    kinds k f x is Output e =
        absurd (both_ways (is_assigned l.items k) f (g.driven k (ap (kind_passes is_driven) is ∙ ap is_driven e)))
    kinds k f x is Inner e =
        absurd (both_ways (is_assigned l.items k) f (g.driven k (ap (kind_passes is_driven) is ∙ ap is_driven e)))
    kinds k f x is Register e = registers k (ap (kind_passes is_register) is ∙ ap is_register e)
    kinds k f x is Memory e = zero-both k (ap net_bits is ∙ ap (λ c. if is_net c then x.high + 1 else 0) e)
    kinds k f x is Child e = zero-both k (ap net_bits is ∙ ap (λ c. if is_net c then x.high + 1 else 0) e)

    go : (k : Name) → is_assigned l.items k ≡ false → (o : Option Declared) → lookup (leaf_lines l) k ≡ o
        → u.net k ≡ v.net k
    go k f None is = zero-both k (ap net_bits is)
    go k f (Some x) is = kinds k f x is x.kind refl
