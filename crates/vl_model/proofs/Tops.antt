-- The top of a sound design: its joins, its drivers, its instances.
use Rattle.std.proofs.Common.{◌≡◌, ℕ, ◌+◌, ◌≤◌, Bool, true, false, List, [], ◌∷◌, ◌++◌, map, Option, refl, sym, ◌∙◌, ap, subst, append_assoc, bytes_eq, cond, arith}
use Rattle.std.specs.Prelude.{Some, None, is_some, ◌==◌, if◌then◌else◌, count_by, find}
use Rattle.std.specs.List.{AllByRecursion, list_all}
use Rattle.std.proofs.lemmas.List.Sums.{sum_by-append}
use Rattle.std.proofs.lemmas.Option.{none-some}
use Rattle.std.proofs.lemmas.Bool.{and_parts, both_ways, not-false, eqb-true, false≢true, false_from_ne_true}
use Rattle.vl_tree.specs.declared.tree.Port.{Port}
use Rattle.vl_tree.specs.declared.tree.Join.{Join}
use Rattle.vl_tree.specs.declared.tree.TopItem.{TopItem}
use Rattle.vl_tree.specs.declared.tree.TopItem.TheVariants.{Wire, Instance}
use Rattle.vl_tree.specs.Values.{Name, Leaf}
use Rattle.vl_model.specs.Meaning.{Values}
use Rattle.vl_model.specs.declared.kind.Kind.{Kind}
use Rattle.vl_model.specs.declared.kind.Kind.TheVariants.{Child}
use Rattle.vl_model.specs.Lines.{Line, joint, sites_behind, Declared, declared, found, lookup, kind_passes, is_net, is_driven, widths, leaf_named, port_named}
use Rattle.vl_model.specs.Rules.{is_kind, name_twice, joins_known, instance_known, name_unknown, join_fits, instance_fits, wrong_width, join_drives, instance_drives, drivers, joins_each, wrong_joins}
use Rattle.vl_model.specs.Leaf.{leaf_widths}
use Rattle.vl_model.specs.Whole.{Of, InstanceHas}
use Rattle.vl_model.specs.Settle.{settle, port_value, instance_value, net_value, by_name}
use Rattle.vl_model.proofs.Passed.{Passes}
use Rattle.vl_model.proofs.Settling.{one-name, itself}
use Rattle.vl_model.proofs.Ordered.{lookup-front, kind-of, net-width, driven-is-net}
use Rattle.vl_model.proofs.Leaves.{GoodLeaf}

-- ---- what holds of each instance

abbrev pub Each : List Leaf → (Leaf → Name → List Join → Type 0) → List TopItem → Type 0
Each ls P is = AllByRecursion (InstanceHas ls P) is

of-map : (o : Option Leaf) (P Q : Leaf → Type 0) → ((l : Leaf) → P l → Q l) → Of o P → Of o Q
of-map None P Q f h = h
of-map (Some l) P Q f h = f l h

of-both : (o : Option Leaf) (P Q R : Leaf → Type 0) → ((l : Leaf) → P l → Q l → R l) → Of o P → Of o Q → Of o R
of-both None P Q R f h k = h
of-both (Some l) P Q R f h k = f l h k

pub each-map : (ls : List Leaf) (P Q : Leaf → Name → List Join → Type 0)
    → ((l : Leaf) (n : Name) (js : List Join) → P l n js → Q l n js) → (is : List TopItem) → Each ls P is → Each ls Q is
each-map ls P Q f [] h = tt
each-map ls P Q f (Wire x n ∷ is) h = (tt, each-map ls P Q f is h.1)
each-map ls P Q f (Instance l n js ∷ is) h =
    (of-map (leaf_named ls l) (λ x. P x n js) (λ x. Q x n js) (λ x. f x n js) h.0, each-map ls P Q f is h.1)

pub each-both : (ls : List Leaf) (P Q R : Leaf → Name → List Join → Type 0)
    → ((l : Leaf) (n : Name) (js : List Join) → P l n js → Q l n js → R l n js) → (is : List TopItem)
    → Each ls P is → Each ls Q is → Each ls R is
each-both ls P Q R f [] h k = tt
each-both ls P Q R f (Wire x n ∷ is) h k = (tt, each-both ls P Q R f is h.1 k.1)
each-both ls P Q R f (Instance l n js ∷ is) h k =
    (of-both (leaf_named ls l) (λ x. P x n js) (λ x. Q x n js) (λ x. R x n js) (λ x. f x n js) h.0 k.0, each-both ls P Q R f is h.1 k.1)

-- ---- one join of many

count-cons : {A : Type 0} (t : A → Bool) (x : A) (xs : List A) → count_by t (x ∷ xs) ≡ cond (t x) 1 0 + count_by t xs
count-cons t x xs = sum_by-append (λ y. cond (t y) 1 0) (x ∷ []) xs ∙ omega arith

pub count-none : {A : Type 0} (t : A → Bool) (xs : List A) → count_by t xs ≡ 0 → AllByRecursion (λ x. t x ≡ false) xs
count-none t [] e = tt
count-none t (x ∷ xs) e = go (count-none t xs) (t x) refl
  where
    go : (count_by t xs ≡ 0 → AllByRecursion (λ x. t x ≡ false) xs) → (b : Bool) → t x ≡ b
        → (t x ≡ false) × AllByRecursion (λ x. t x ≡ false) xs
    go rest true is = let parts : count_by t (x ∷ xs) ≡ 1 + count_by t xs = count-cons t x xs ∙ ap (λ b. cond b 1 0 + count_by t xs) is in absurd (omega arith)
    go rest false is = let parts : count_by t (x ∷ xs) ≡ 0 + count_by t xs = count-cons t x xs ∙ ap (λ b. cond b 1 0 + count_by t xs) is in (is, rest (omega arith))

pub none-found : {A : Type 0} (t : A → Bool) (xs : List A) → AllByRecursion (λ x. t x ≡ false) xs → find t xs ≡ None
none-found t [] a = refl
none-found t (x ∷ xs) a = rw a.0 (none-found t xs a.1)

pub one-found : {A : Type 0} (t : A → Bool) (xs : List A) → count_by t xs ≡ 1
    → AllByRecursion (λ x. t x ≡ true → find t xs ≡ Some x) xs
one-found t [] e = tt
one-found {A = A} t (x ∷ xs) e = go (one-found t xs) (t x) refl
  where
    lift : (ys : List A) → t x ≡ false → AllByRecursion (λ y. t y ≡ true → find t xs ≡ Some y) ys
        → AllByRecursion (λ y. t y ≡ true → find t (x ∷ xs) ≡ Some y) ys
    lift [] is a = tt
    lift (y ∷ ys) is a = ((λ h. rw is (a.0 h)), lift ys is a.1)

    never : (ys : List A) → AllByRecursion (λ y. t y ≡ false) ys
        → AllByRecursion (λ y. t y ≡ true → find t (x ∷ xs) ≡ Some y) ys
    never [] a = tt
    never (y ∷ ys) a = ((λ h. absurd (both_ways (t y) a.0 h)), never ys a.1)

    go : (count_by t xs ≡ 1 → AllByRecursion (λ y. t y ≡ true → find t xs ≡ Some y) xs) → (b : Bool) → t x ≡ b
        → (t x ≡ true → find t (x ∷ xs) ≡ Some x) × AllByRecursion (λ y. t y ≡ true → find t (x ∷ xs) ≡ Some y) xs
    go rest true is =
        let parts : count_by t (x ∷ xs) ≡ 1 + count_by t xs =
        count-cons t x xs ∙ ap (λ b. cond b 1 0 + count_by t xs) is in
        ((λ h. rw is refl), never xs (count-none t xs (omega arith)))
    go rest false is =
        let parts : count_by t (x ∷ xs) ≡ 0 + count_by t xs =
        count-cons t x xs ∙ ap (λ b. cond b 1 0 + count_by t xs) is in
        ((λ h. absurd (both_ways (t x) is h)), lift xs is (rest (omega arith)))

-- what is found passes, and has what each that passes has
pub found-has : {A : Type 0} (t : A → Bool) (Q : A → Type 0) (xs : List A) (y : A) → find t xs ≡ Some y
    → AllByRecursion (λ x. t x ≡ true → Q x) xs → (t y ≡ true) × Q y
found-has t Q [] y e a = absurd (none-some y e)
found-has t Q (x ∷ xs) y e a = go (λ f. found-has t Q xs y f a.1) (t x) refl
  where
    go : (find t xs ≡ Some y → (t y ≡ true) × Q y) → (b : Bool) → t x ≡ b → (t y ≡ true) × Q y
    go rest true is = let one : x ≡ y = cc (rw is at e) in (subst (λ z. t z ≡ true) one is, subst Q one (a.0 is))
    go rest false is = rest (rw is at e)

pub found-none : {A : Type 0} (t : A → Bool) (xs : List A) → find t xs ≡ None → count_by t xs ≡ 0
found-none t [] e = refl
found-none t (x ∷ xs) e = go (found-none t xs) (t x) refl
  where
    go : (find t xs ≡ None → count_by t xs ≡ 0) → (b : Bool) → t x ≡ b → count_by t (x ∷ xs) ≡ 0
    go rest true is = absurd (none-some x (sym (rw is at e)))
    go rest false is = let zero_rest : count_by t xs ≡ 0 = rest (rw is at e) in let parts : count_by t (x ∷ xs) ≡ 0 + count_by t xs = count-cons t x xs ∙ ap (λ b. cond b 1 0 + count_by t xs) is in omega arith

-- ---- joins and instances

-- the join's port is one of the leaf, as wide as the net, and an output port's net may be driven
pub record GoodJoin (all : List Line) (l : Leaf) (j : Join) : Type 0 where
  pub port : Port
  pub named : port_named l.ports j.port ≡ Some port
  pub wide : port.high + 1 ≡ (widths all).net j.net
  pub driven : port.output ≡ true → is_kind is_driven all j.net ≡ true

pub record GoodInstance (all : List Line) (l : Leaf) (n : Name) (js : List Join) : Type 0 where
  pub leaf : GoodLeaf l
  pub joins : AllByRecursion (GoodJoin all l) js
  pub each : list_all (λ (p : Port). count_by (λ (j : Join). bytes_eq p.name j.port) js == 1) l.ports ≡ true

kind-front : (test : Kind → Bool) (before rest : List Line) (n : Name) → is_kind test before n ≡ true
    → is_kind test (before ++ rest) n ≡ true
kind-front test before rest n e =
    let what = kind-of test before n e in
    ap (kind_passes test) (lookup-front before rest n what.0 what.1) ∙ what.2

good-join : (all before rest : List Line) (l : Leaf) (j : Join) → all ≡ before ++ rest
    → joins_known before j.net (port_named l.ports j.port) ≡ true
    → join_fits (widths before) j.net (port_named l.ports j.port) ≡ true → GoodJoin all l j
good-join all before rest l j e known fits = go (port_named l.ports j.port) refl
  where
    out : (p : Port) → joins_known before j.net (Some p) ≡ true → (b : Bool) → p.output ≡ b → p.output ≡ true
        → is_kind is_driven all j.net ≡ true
    out p k true is o =
        ap (λ x. is_kind is_driven x j.net) e
        ∙ kind-front is_driven before rest j.net (subst (λ b. is_kind (if b then is_driven else is_net) before j.net ≡ true) is k)
    out p k false is o = absurd (both_ways p.output is o)

    some-net : (b : Bool) → is_kind (if b then is_driven else is_net) before j.net ≡ true
        → is_kind is_net before j.net ≡ true
    some-net true k = driven-is-net before j.net k
    some-net false k = k

    go : (o : Option Port) → port_named l.ports j.port ≡ o → GoodJoin all l j
    go None is = absurd (false≢true (subst (λ o. joins_known before j.net o ≡ true) is known))
    go (Some p) is =
        let here : joins_known before j.net (Some p) ≡ true = subst (λ o. joins_known before j.net o ≡ true) is known in
        record {
          port = p;
          named = is;
          wide = eqb-true (p.high + 1) ((widths before).net j.net) (subst (λ o. join_fits (widths before) j.net o ≡ true) is fits) ∙ net-width all before rest j.net e (some-net p.output here);
          driven = out p here p.output refl;
        }

good-joins : (all before rest : List Line) (l : Leaf) (js : List Join) → all ≡ before ++ rest
    → list_all (λ (j : Join). joins_known before j.net (port_named l.ports j.port)) js ≡ true
    → list_all (λ (j : Join). join_fits (widths before) j.net (port_named l.ports j.port)) js ≡ true
    → AllByRecursion (GoodJoin all l) js
good-joins all before rest l [] e known fits = tt
good-joins all before rest l (j ∷ js) e known fits =
    let ks =
    and_parts (joins_known before j.net (port_named l.ports j.port)) (list_all (λ (j : Join). joins_known before j.net (port_named l.ports j.port)) js) known in
    let fs =
    and_parts (join_fits (widths before) j.net (port_named l.ports j.port)) (list_all (λ (j : Join). join_fits (widths before) j.net (port_named l.ports j.port)) js) fits in
    (good-join all before rest l j e ks.0 fs.0, good-joins all before rest l js e ks.1 fs.1)

pub more-top : (all before : List Line) (x : TopItem) (is : List TopItem) → all ≡ before ++ map joint (x ∷ is)
    → all ≡ (before ++ joint x ∷ []) ++ map joint is
more-top all before x is e = e ∙ sym (append_assoc before (joint x ∷ []) (map joint is))

pub good-instances : (ls : List Leaf) (all before : List Line) (is : List TopItem) → all ≡ before ++ map joint is
    → ((n : Name) (l : Leaf) → leaf_named ls n ≡ Some l → GoodLeaf l)
    → Passes name_unknown (sites_behind ls all before (map joint is))
    → Passes wrong_width (sites_behind ls all before (map joint is))
    → Passes wrong_joins (sites_behind ls all before (map joint is))
    → Each ls (GoodInstance all) is
unfolding name_unknown wrong_width wrong_joins
good-instances ls all before [] e good known fits each = tt
good-instances ls all before (Wire h n ∷ is) e good known fits each =
    (tt, good-instances ls all (before ++ joint (Wire h n) ∷ []) is (more-top all before (Wire h n) is e) good known.1 fits.1 each.1)
good-instances ls all before (Instance l n js ∷ is) e good known fits each =
    (go (leaf_named ls l) refl, good-instances ls all (before ++ joint (Instance l n js) ∷ []) is (more-top all before (Instance l n js) is e) good known.1 fits.1 each.1)
  where
    known-here : instance_known before js (leaf_named ls l) ≡ true
    known-here = not-false (instance_known before js (leaf_named ls l)) known.0

    fits-here : instance_fits (widths before) js (leaf_named ls l) ≡ true
    fits-here = not-false (instance_fits (widths before) js (leaf_named ls l)) fits.0

    each-here : joins_each js (leaf_named ls l) ≡ true
    each-here = not-false (joins_each js (leaf_named ls l)) each.0

    go : (o : Option Leaf) → leaf_named ls l ≡ o → Of o (λ x. GoodInstance all x n js)
    go None is' = false≢true (subst (λ o. instance_known before js o ≡ true) is' known-here)
    go (Some x) is' = record {
      leaf = good l x is';
      joins = good-joins all before (map joint (Instance l n js ∷ is)) x js e (subst (λ o. instance_known before js o ≡ true) is' known-here) (subst (λ o. instance_fits (widths before) js o ≡ true) is' fits-here);
      each = subst (λ o. joins_each js o ≡ true) is' each-here;
    }

-- ---- the nets of the top

-- a leaf's first turn
abbrev pub turn : Leaf → Values → Values
turn l v = settle (leaf_widths l) v l.items

-- what each port that drives the net has, and the other number where none does, the net has
pub net-has : (ls : List Leaf) (inside : Name → Values) (P : ℕ → Type 0) (n : Name) (y : ℕ) (is : List TopItem)
    → (drivers ls (map joint is) n ≡ 0 → P y)
    → Each ls (λ l i js. AllByRecursion (λ (j : Join). join_drives l n j ≡ true → P ((turn l (inside i)).net j.port)) js) is
    → P (net_value ls inside is n y)
net-has ls inside P n y [] other h = other refl
net-has ls inside P n y (Wire x m ∷ is) other h = net-has ls inside P n y is (λ e. other (omega arith)) h.1
net-has ls inside P n y (Instance l i js ∷ is) other h = go (λ f. net-has ls inside P n y is f h.1) (leaf_named ls l) refl h.0
  where
    V : ℕ
    V = net_value ls inside is n y

    value : (x : Leaf) → ((drivers ls (map joint is) n ≡ 0 → P y) → P V) → leaf_named ls l ≡ Some x
        → AllByRecursion (λ (j : Join). join_drives x n j ≡ true → P ((turn x (inside i)).net j.port)) js
        → (o : Option Join) → find (join_drives x n) js ≡ o → P (port_value o (turn x (inside i)) V)
    value x later named here None none =
        later (λ e. other (ap (λ o. instance_drives n js o + drivers ls (map joint is) n) named ∙ ap (λ k. k + drivers ls (map joint is) n) (found-none (join_drives x n) js none) ∙ omega arith))
    value x later named here (Some j) some =
        (found-has (join_drives x n) (λ (j : Join). P ((turn x (inside i)).net j.port)) js j some here).1

    go : ((drivers ls (map joint is) n ≡ 0 → P y) → P V) → (o : Option Leaf) → leaf_named ls l ≡ o
        → Of o (λ x. AllByRecursion (λ (j : Join). join_drives x n j ≡ true → P ((turn x (inside i)).net j.port)) js)
        → P (instance_value inside i js (leaf_named ls l) n V)
    go later None named here = absurd here
    go later (Some x) named here =
        subst (λ o. P (instance_value inside i js o n V)) (sym named) (value x later named here (find (join_drives x n) js) refl)

-- what holds of nothing that has no driver
all-never : {A : Type 0} (t : A → Bool) (Q : A → Type 0) (xs : List A) → AllByRecursion (λ x. t x ≡ false) xs
    → AllByRecursion (λ x. t x ≡ true → Q x) xs
all-never t Q [] a = tt
all-never t Q (x ∷ xs) a = ((λ h. absurd (both_ways (t x) a.0 h)), all-never t Q xs a.1)

abbrev pub Known : List Leaf → List TopItem → Type 0
Known ls is = Each ls (λ l i js. Unit {0}) is

none-drive : (ls : List Leaf) (n : Name) (is : List TopItem) → Known ls is → drivers ls (map joint is) n ≡ 0
    → Each ls (λ l i js. AllByRecursion (λ (j : Join). join_drives l n j ≡ false) js) is
none-drive ls n [] k e = tt
none-drive ls n (Wire x m ∷ is) k e = (tt, none-drive ls n is k.1 (omega arith))
none-drive ls n (Instance l i js ∷ is) k e = (go (leaf_named ls l) refl k.0, none-drive ls n is k.1 (omega arith))
  where
    go : (o : Option Leaf) → leaf_named ls l ≡ o → Of o (λ x. Unit {0})
        → Of o (λ x. AllByRecursion (λ (j : Join). join_drives x n j ≡ false) js)
    go None is' h = h
    go (Some x) is' h =
        let here : instance_drives n js (leaf_named ls l) ≡ count_by (join_drives x n) js =
        ap (instance_drives n js) is' in
        count-none (join_drives x n) js (omega arith)

-- a net with one driver has that port's number
pub net-one : (ls : List Leaf) (inside : Name → Values) (n : Name) (y : ℕ) (is : List TopItem) → Known ls is
    → drivers ls (map joint is) n ≡ 1
    → Each ls (λ l i js. AllByRecursion (λ (j : Join). join_drives l n j ≡ true → net_value ls inside is n y ≡ (turn l (inside i)).net j.port) js) is
net-one ls inside n y [] k e = tt
net-one ls inside n y (Wire x m ∷ is) k e = (tt, net-one ls inside n y is k.1 (omega arith))
net-one ls inside n y (Instance l i js ∷ is) k e = go (net-one ls inside n y is k.1) (none-drive ls n is k.1) (leaf_named ls l) refl k.0
  where
    V : ℕ
    V = net_value ls inside is n y

    Tail : ℕ → Type 0
    Tail value =
        Each ls (λ l i js. AllByRecursion (λ (j : Join). join_drives l n j ≡ true → value ≡ (turn l (inside i)).net j.port) js) is

    found-one : (x : Leaf) (ks : List Join)
        → AllByRecursion (λ (j : Join). join_drives x n j ≡ true → find (join_drives x n) js ≡ Some j) ks
        → AllByRecursion (λ (j : Join). join_drives x n j ≡ true → port_value (find (join_drives x n) js) (turn x (inside i)) V ≡ (turn x (inside i)).net j.port) ks
    found-one x [] a = tt
    found-one x (j ∷ ks) a = ((λ h. ap (λ o. port_value o (turn x (inside i)) V) (a.0 h)), found-one x ks a.1)

    never : Each ls (λ l i js. AllByRecursion (λ (j : Join). join_drives l n j ≡ false) js) is → (value : ℕ)
        → Tail value
    never none value =
        each-map ls (λ l i js. AllByRecursion (λ (j : Join). join_drives l n j ≡ false) js) (λ l i js. AllByRecursion (λ (j : Join). join_drives l n j ≡ true → value ≡ (turn l (inside i)).net j.port) js)
        (λ l i js. all-never (join_drives l n) (λ (j : Join). value ≡ (turn l (inside i)).net j.port) js) is none

    counted : (x : Leaf) → leaf_named ls l ≡ Some x → count_by (join_drives x n) js + drivers ls (map joint is) n ≡ 1
    counted x named = ap (λ o. instance_drives n js o + drivers ls (map joint is) n) (sym named) ∙ e

    with_leaf : (drivers ls (map joint is) n ≡ 1 → Tail V)
        → (drivers ls (map joint is) n ≡ 0 → Each ls (λ l i js. AllByRecursion (λ (j : Join). join_drives l n j ≡ false) js) is)
        → (x : Leaf) → leaf_named ls l ≡ Some x → (o : Option Join) → find (join_drives x n) js ≡ o
        → AllByRecursion (λ (j : Join). join_drives x n j ≡ true → port_value (find (join_drives x n) js) (turn x (inside i)) V ≡ (turn x (inside i)).net j.port) js
        × Tail (port_value (find (join_drives x n) js) (turn x (inside i)) V)
    with_leaf one none x named None is' =
        let zero_here = found-none (join_drives x n) js is' in
        let all = counted x named in (
          all-never (join_drives x n) (λ (j : Join). port_value (find (join_drives x n) js) (turn x (inside i)) V ≡ (turn x (inside i)).net j.port) js (count-none (join_drives x n) js zero_here),
          subst Tail (sym (ap (λ o. port_value o (turn x (inside i)) V) is')) (one (omega arith)),
        )
    with_leaf one none x named (Some j) is' =
        let all = counted x named in
        let some : 1 ≤ count_by (join_drives x n) js =
        not-none (count_by (join_drives x n) js) (λ z. none-some j (sym (none-found (join_drives x n) js (count-none (join_drives x n) js z)) ∙ is')) in
        (found-one x js (one-found (join_drives x n) js (omega arith)), never (none (omega arith)) (port_value (find (join_drives x n) js) (turn x (inside i)) V))
      where
        not-none : (c : ℕ) → (c ≡ 0 → ⊥) → 1 ≤ c
        not-none c h = omega (arith, h)

    go : (drivers ls (map joint is) n ≡ 1 → Tail V)
        → (drivers ls (map joint is) n ≡ 0 → Each ls (λ l i js. AllByRecursion (λ (j : Join). join_drives l n j ≡ false) js) is)
        → (o : Option Leaf) → leaf_named ls l ≡ o → Of o (λ x. Unit {0})
        → Of (leaf_named ls l) (λ x. AllByRecursion (λ (j : Join). join_drives x n j ≡ true → instance_value inside i js (leaf_named ls l) n V ≡ (turn x (inside i)).net j.port) js)
        × Tail (instance_value inside i js (leaf_named ls l) n V)
    go one none None named h = absurd h
    go one none (Some x) named h = rw named (with_leaf one none x named (find (join_drives x n) js) refl)

-- ---- instances by their names

later-differs : (ls : List Leaf) (all before : List Line) (is : List TopItem) (n : Name) (x : Declared) → Known ls is
    → Passes name_twice (sites_behind ls all before (map joint is)) → lookup before n ≡ Some x
    → Each ls (λ l i js. bytes_eq i n ≡ false) is
unfolding name_twice
later-differs ls all before [] n x k p e = tt
later-differs ls all before (Wire h m ∷ is) n x k p e =
    (tt, later-differs ls all (before ++ joint (Wire h m) ∷ []) is n x k.1 p.1 (lookup-front before (joint (Wire h m) ∷ []) n x e))
later-differs ls all before (Instance l i js ∷ is) n x k p e =
    (go (leaf_named ls l) k.0, later-differs ls all (before ++ joint (Instance l i js) ∷ []) is n x k.1 p.1 (lookup-front before (joint (Instance l i js) ∷ []) n x e))
  where
    other : bytes_eq i n ≡ false
    other =
        false_from_ne_true (bytes_eq i n) (λ same. both_ways (is_some (lookup before i)) p.0 (ap (λ m. is_some (lookup before m)) (one-name i n same) ∙ ap is_some e))

    go : (o : Option Leaf) → Of o (λ x. Unit {0}) → Of o (λ x. bytes_eq i n ≡ false)
    go None h = h
    go (Some y) h = other

lookup-last : (before : List Line) (x : Line) (n : Name) → (y : Declared) → lookup (x ∷ []) n ≡ Some y
    → (z : Declared) × (lookup (before ++ x ∷ []) n ≡ Some z)
lookup-last before x n y e = go before
  where
    step : (d : Option Declared) (l : Option Declared) → (z : Declared) × (l ≡ Some z)
        → (z : Declared) × (found d n l ≡ Some z)
    step None l h = h
    step (Some d) l h = at (bytes_eq n d.name) refl
      where
        at : (b : Bool) → bytes_eq n d.name ≡ b → (z : Declared) × (found (Some d) n l ≡ Some z)
        at true is = (d, rw is refl)
        at false is = (h.0, rw is h.1)

    go : (before : List Line) → (z : Declared) × (lookup (before ++ x ∷ []) n ≡ Some z)
    go [] = (y, e)
    go (b ∷ bs) = step (declared b) (lookup (bs ++ x ∷ []) n) (go bs)

-- each instance is found by its name
pub found-at : (ls : List Leaf) (all before : List Line) (is : List TopItem)
    (f : Option Leaf → Name → List Join → Values) (other : Name → Values) → Known ls is
    → Passes name_twice (sites_behind ls all before (map joint is))
    → Each ls (λ l i js. by_name ls is f other i ≡ f (Some l) i js) is
found-at ls all before [] f other k p = tt
found-at ls all before (Wire h m ∷ is) f other k p =
    (tt, found-at ls all (before ++ joint (Wire h m) ∷ []) is f other k.1 p.1)
found-at ls all before (Instance l i js ∷ is) f other k p = (
  go (leaf_named ls l) refl k.0,
  each-both ls (λ y m ks. bytes_eq m i ≡ false) (λ y m ks. by_name ls is f other m ≡ f (Some y) m ks) (λ y m ks. by_name ls (Instance l i js ∷ is) f other m ≡ f (Some y) m ks)
      (λ y m ks differ e. rw differ e) is
      (later-differs ls all (before ++ joint (Instance l i js) ∷ []) is i here.0 k.1 p.1 here.1)
      (found-at ls all (before ++ joint (Instance l i js) ∷ []) is f other k.1 p.1),
)
  where
    here : (z : Declared) × (lookup (before ++ joint (Instance l i js) ∷ []) i ≡ Some z)
    here =
        lookup-last before (joint (Instance l i js)) i (record { name = i; kind = Child; high = 0; last = 0 }) (rw (itself i) refl)

    go : (o : Option Leaf) → leaf_named ls l ≡ o → Of o (λ x. Unit {0})
        → Of o (λ y. by_name ls (Instance l i js ∷ is) f other i ≡ f (Some y) i js)
    go None is' h = h
    go (Some y) is' h = rw (itself i) (ap (λ o. f o i js) is')

-- what holds of each leaf
pub each-leaf : (ls : List Leaf) (Q : Leaf → Type 0) (is : List TopItem) → Known ls is
    → ((n : Name) (l : Leaf) → leaf_named ls n ≡ Some l → Q l) → Each ls (λ l n js. Q l) is
each-leaf ls Q [] k f = tt
each-leaf ls Q (Wire h m ∷ is) k f = (tt, each-leaf ls Q is k.1 f)
each-leaf ls Q (Instance l n js ∷ is) k f = (go (leaf_named ls l) refl k.0, each-leaf ls Q is k.1 f)
  where
    go : (o : Option Leaf) → leaf_named ls l ≡ o → Of o (λ x. Unit {0}) → Of o Q
    go None e h = h
    go (Some x) e h = f l x e
