-- Sound leaves under a sound top are a sound design.
use Rattle.std.proofs.Common.{◌≡◌, ◌≢◌, ℕ, ◌+◌, Bool, true, false, ◌&&◌, List, [], ◌∷◌, ◌++◌, map, Option, refl, sym, ◌∙◌, ap, bytes_eq}
use Rattle.std.specs.Prelude.{Some, None, not, is_some, ◌==◌}
use Rattle.std.specs.List.{AllByRecursion, list_all, position_from}
use Rattle.std.proofs.lemmas.Option.{none-some}
use Rattle.std.proofs.lemmas.Bool.{and_from}
use Rattle.vl_tree.specs.declared.tree.Port.{Port}
use Rattle.vl_tree.specs.Values.{Name, Item, wire, reg, mem, assign, clocked, store, Leaf}
use Rattle.vl_tree.specs.Plain.{plain_leaf, plain_port, plain_top_item}
use Rattle.vl_tree.proofs.Plainly.{plain_is}
use Rattle.vl_model.specs.Lines.{Line, heading, port, item, joint, Site, sites_behind, module_sites, leaf_sites, leaf_lines, top_lines, sites, Declared, declared, leaf_named}
use Rattle.vl_model.specs.Rules.{Rule, rules, first_fault_of, first_fault, IsSoundLeaf, lacks_driver, wants_driver, drivers, drives, name_twice, name_unknown, wrong_width, wrong_order, wrong_driver, goes_through, wrong_size, wrong_joins}
use Rattle.vl_model.specs.Laws.{NamesApart, SoundTogether}
use Rattle.vl_model.proofs.Passed.{Passes, PassAll, no-fault}
use Rattle.vl_model.proofs.Settling.{differs}

-- ---- no fault, from each place

passes-none : (t : Site → Bool) (i : ℕ) (ps : List Site) → Passes t ps → position_from t i ps ≡ None
passes-none t i [] p = refl
passes-none t i (x ∷ ps) p = rw p.0 (passes-none t (i + 1) ps p.1)

pub all-none : (rs : List Rule) (ps : List Site) → AllByRecursion (λ (r : Rule). Passes r.1 ps) rs
    → first_fault_of rs ps ≡ None
all-none [] ps a = refl
all-none (r ∷ rs) ps a = rw (passes-none r.1 0 ps a.0) (all-none rs ps a.1)

pub all-join : {A : Type 0} (P : A → Type 0) (xs ys : List A) → AllByRecursion P xs → AllByRecursion P ys
    → AllByRecursion P (xs ++ ys)
all-join P [] ys a b = b
all-join P (x ∷ xs) ys a b = (a.0, all-join P xs ys a.1 b)

all-zip : {A : Type 0} (P Q R : A → Type 0) → ((x : A) → P x → Q x → R x) → (xs : List A) → AllByRecursion P xs
    → AllByRecursion Q xs → AllByRecursion R xs
all-zip P Q R f [] a b = tt
all-zip P Q R f (x ∷ xs) a b = (f x a.0 b.0, all-zip P Q R f xs a.1 b.1)

pass-join : (xs ys : List Site) → PassAll xs → PassAll ys → PassAll (xs ++ ys)
pass-join xs ys a b =
    all-zip (λ (r : Rule). Passes r.1 xs) (λ (r : Rule). Passes r.1 ys) (λ (r : Rule). Passes r.1 (xs ++ ys)) (λ r p q. all-join (λ x. r.1 x ≡ false) xs ys p q) rules a b

-- ---- a leaf's lines do not look at other leaves

IsOwn : Line → Type 0
IsOwn (heading n) = ⊥
IsOwn (port p) = Unit {0}
IsOwn (item x) = Unit {0}
IsOwn (joint x) = ⊥

own-ports : (ps : List Port) → AllByRecursion IsOwn (map port ps)
unfolding IsOwn
own-ports [] = tt
own-ports (p ∷ ps) = (tt, own-ports ps)

own-items : (is : List Item) → AllByRecursion IsOwn (map item is)
unfolding IsOwn
own-items [] = tt
own-items (x ∷ is) = (tt, own-items is)

own-drives : (bs : List Leaf) (n : Name) (x : Line) → IsOwn x → drives bs n x ≡ drives [] n x
unfolding IsOwn
own-drives bs n (heading m) o = refl
own-drives bs n (port p) o = refl
own-drives bs n (item (wire h m)) o = refl
own-drives bs n (item (reg h m)) o = refl
own-drives bs n (item (mem h m last)) o = refl
own-drives bs n (item (assign m e)) o = refl
own-drives bs n (item (clocked m k e)) o = refl
own-drives bs n (item (store c m i e)) o = refl
own-drives bs n (joint x) o = absurd o

own-drivers : (bs : List Leaf) (xs : List Line) (n : Name) → AllByRecursion IsOwn xs → drivers bs xs n ≡ drivers [] xs n
own-drivers bs [] n o = refl
own-drivers bs (x ∷ xs) n o = rw (own-drives bs n x o.0, own-drivers bs xs n o.1) refl

leaf-drivers : (bs : List Leaf) (l : Leaf) (n : Name) → drivers bs (leaf_lines l) n ≡ drivers [] (leaf_lines l) n
leaf-drivers bs l n =
    ap (λ k. 0 + k) (own-drivers bs (map port l.ports ++ map item l.items) n (all-join IsOwn (map port l.ports) (map item l.items) (own-ports l.ports) (own-items l.items)))

lacks-same : (bs : List Leaf) (l : Leaf) (o : Option Declared)
    → lacks_driver bs (leaf_lines l) o ≡ lacks_driver [] (leaf_lines l) o
lacks-same bs l None = refl
lacks-same bs l (Some x) = ap (λ k. wants_driver x.kind && not (k == 1)) (leaf-drivers bs l x.name)

at : List Leaf → List Line → List Line → Line → Site
at bs all before x = record { leaves = bs; lines = all; before = before; line = x }

passes-own : (t : Site → Bool) (bs : List Leaf) (all : List Line)
    → ((before : List Line) (x : Line) → IsOwn x → t (at bs all before x) ≡ t (at [] all before x))
    → (before xs : List Line) → AllByRecursion IsOwn xs → Passes t (sites_behind [] all before xs)
    → Passes t (sites_behind bs all before xs)
unfolding at
passes-own t bs all same before [] o p = tt
passes-own t bs all same before (x ∷ xs) o p =
    (same before x o.0 ∙ p.0, passes-own t bs all same (before ++ x ∷ []) xs o.1 p.1)

module _ (bs : List Leaf) (l : Leaf) where
  twice-same : (before : List Line) (x : Line) → IsOwn x
      → name_twice (at bs (leaf_lines l) before x) ≡ name_twice (at [] (leaf_lines l) before x)
  unfolding at IsOwn name_twice
  twice-same before (heading n) o = absurd o
  twice-same before (port p) o = refl
  twice-same before (item x) o = refl
  twice-same before (joint x) o = absurd o

  known-same : (before : List Line) (x : Line) → IsOwn x
      → name_unknown (at bs (leaf_lines l) before x) ≡ name_unknown (at [] (leaf_lines l) before x)
  unfolding at IsOwn name_unknown
  known-same before (heading n) o = absurd o
  known-same before (port p) o = refl
  known-same before (item (wire h m)) o = refl
  known-same before (item (reg h m)) o = refl
  known-same before (item (mem h m last)) o = refl
  known-same before (item (assign m e)) o = refl
  known-same before (item (clocked m k e)) o = refl
  known-same before (item (store c m i e)) o = refl
  known-same before (joint x) o = absurd o

  width-same' : (before : List Line) (x : Line) → IsOwn x
      → wrong_width (at bs (leaf_lines l) before x) ≡ wrong_width (at [] (leaf_lines l) before x)
  unfolding at IsOwn wrong_width
  width-same' before (heading n) o = absurd o
  width-same' before (port p) o = refl
  width-same' before (item (wire h m)) o = refl
  width-same' before (item (reg h m)) o = refl
  width-same' before (item (mem h m last)) o = refl
  width-same' before (item (assign m e)) o = refl
  width-same' before (item (clocked m k e)) o = refl
  width-same' before (item (store c m i e)) o = refl
  width-same' before (joint x) o = absurd o

  order-same : (before : List Line) (x : Line) → IsOwn x
      → wrong_order (at bs (leaf_lines l) before x) ≡ wrong_order (at [] (leaf_lines l) before x)
  unfolding at wrong_order
  order-same before x o = refl

  driver-same : (before : List Line) (x : Line) → IsOwn x
      → wrong_driver (at bs (leaf_lines l) before x) ≡ wrong_driver (at [] (leaf_lines l) before x)
  unfolding at wrong_driver
  driver-same before x o = lacks-same bs l (declared x)

  through-same : (before : List Line) (x : Line) → IsOwn x
      → goes_through (at bs (leaf_lines l) before x) ≡ goes_through (at [] (leaf_lines l) before x)
  unfolding at goes_through
  through-same before x o = refl

  size-same : (before : List Line) (x : Line) → IsOwn x
      → wrong_size (at bs (leaf_lines l) before x) ≡ wrong_size (at [] (leaf_lines l) before x)
  unfolding at wrong_size
  size-same before x o = refl

  joins-same : (before : List Line) (x : Line) → IsOwn x
      → wrong_joins (at bs (leaf_lines l) before x) ≡ wrong_joins (at [] (leaf_lines l) before x)
  unfolding at IsOwn wrong_joins
  joins-same before (heading n) o = absurd o
  joins-same before (port p) o = refl
  joins-same before (item x) o = refl
  joins-same before (joint x) o = absurd o

  own : AllByRecursion IsOwn (map port l.ports ++ map item l.items)
  own = all-join IsOwn (map port l.ports) (map item l.items) (own-ports l.ports) (own-items l.items)

  behind : (t : Site → Bool)
      → ((before : List Line) (x : Line) → IsOwn x → t (at bs (leaf_lines l) before x) ≡ t (at [] (leaf_lines l) before x))
      → Passes t (sites_behind [] (leaf_lines l) (heading l.name ∷ []) (map port l.ports ++ map item l.items))
      → Passes t (sites_behind bs (leaf_lines l) (heading l.name ∷ []) (map port l.ports ++ map item l.items))
  behind t same p =
      passes-own t bs (leaf_lines l) same (heading l.name ∷ []) (map port l.ports ++ map item l.items) own p

  leaf-passes : leaf_named bs l.name ≡ None → PassAll (module_sites [] (leaf_lines l))
      → PassAll (module_sites bs (leaf_lines l))
  unfolding name_twice name_unknown wrong_width wrong_order wrong_driver goes_through wrong_size wrong_joins
  leaf-passes free a = ((
    (ap is_some free, behind name_twice twice-same a.0.1),
    (
      (refl, behind name_unknown known-same a.1.0.1),
      (
        (refl, behind wrong_width width-same' a.1.1.0.1),
        (
          (refl, behind wrong_order order-same a.1.1.1.0.1),
          (
            (refl, behind wrong_driver driver-same a.1.1.1.1.0.1),
            (
              (refl, behind goes_through through-same a.1.1.1.1.1.0.1),
              (
                (refl, behind wrong_size size-same a.1.1.1.1.1.1.0.1),
                (
                  (refl, behind wrong_joins joins-same a.1.1.1.1.1.1.1.0.1),
                  tt,
                ),
              ),
            ),
          ),
        ),
      ),
    ),
  ))

-- ---- all leaves

not-added : (before : List Leaf) (l : Leaf) (n : Name) → leaf_named before n ≡ None → n ≢ l.name
    → leaf_named (before ++ l ∷ []) n ≡ None
not-added [] l n free other = rw (differs n l.name other) refl
not-added (x ∷ before) l n free other = go (not-added before l n) (bytes_eq n x.name) refl
  where
    go : (leaf_named before n ≡ None → n ≢ l.name → leaf_named (before ++ l ∷ []) n ≡ None) → (b : Bool)
        → bytes_eq n x.name ≡ b → leaf_named ((x ∷ before) ++ l ∷ []) n ≡ None
    go later true is = absurd (none-some x (sym (rw is at free)))
    go later false is = rw is (later (rw is at free) other)

leaves-pass : (before ls : List Leaf) → AllByRecursion IsSoundLeaf ls → NamesApart ls
    → AllByRecursion (λ (k : Leaf). leaf_named before k.name ≡ None) ls → PassAll (leaf_sites before ls)
leaves-pass before [] s apart free = (tt, (tt, (tt, (tt, (tt, (tt, (tt, (tt, tt))))))))
leaves-pass before (l ∷ ls) s apart free =
    pass-join (module_sites before (leaf_lines l)) (leaf_sites (before ++ l ∷ []) ls) (leaf-passes before l free.0 (no-fault rules (module_sites [] (leaf_lines l)) s.0.rules))
    (leaves-pass (before ++ l ∷ []) ls s.1 apart.1
    (all-zip (λ (k : Leaf). leaf_named before k.name ≡ None) (λ (k : Leaf). k.name ≢ l.name) (λ (k : Leaf). leaf_named (before ++ l ∷ []) k.name ≡ None) (λ k f o. not-added before l k.name f o) ls free.1 apart.0))

all-free : (ls : List Leaf) → AllByRecursion (λ (k : Leaf). leaf_named [] k.name ≡ None) ls
all-free [] = tt
all-free (l ∷ ls) = (refl, all-free ls)

leaves-plain : (ls : List Leaf) → AllByRecursion IsSoundLeaf ls → list_all plain_leaf ls ≡ true
leaves-plain [] s = refl
leaves-plain (l ∷ ls) s = and_from (plain_leaf l) (list_all plain_leaf ls) s.0.plain (leaves-plain ls s.1)

pub sound-together : SoundTogether
unfolding first_fault
sound-together d s apart ports items top = record {
  plain = plain_is d (and_from (list_all plain_leaf d.leaves && list_all plain_port d.top.ports) (list_all plain_top_item d.top.items) (and_from (list_all plain_leaf d.leaves) (list_all plain_port d.top.ports) (leaves-plain d.leaves s) ports) items);
  rules = all-none rules (sites d) (pass-join (leaf_sites [] d.leaves) (module_sites d.leaves (top_lines d.top)) (leaves-pass [] d.leaves s apart (all-free d.leaves)) (no-fault rules (module_sites d.leaves (top_lines d.top)) top));
}
