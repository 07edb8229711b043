-- What drives a net of the top, and what is inside an instance, whatever a net's value is.
use Rattle.std.proofs.Common.{◌≡◌, ℕ, ◌+◌, ◌≤◌, Bool, true, false, List, [], ◌∷◌, ◌++◌, map, Option, refl, sym, ◌∙◌, ap, subst, bytes_eq, arith}
use Rattle.std.specs.Prelude.{Some, None, is_some, count_by, find}
use Rattle.std.specs.List.{AllByRecursion}
use Rattle.std.proofs.lemmas.Option.{none-some}
use Rattle.std.proofs.lemmas.Bool.{both_ways, false_from_ne_true}
use Rattle.vl_tree.specs.declared.tree.Join.{Join}
use Rattle.vl_tree.specs.declared.tree.TopItem.{TopItem}
use Rattle.vl_tree.specs.declared.tree.TopItem.TheVariants.{Wire, Instance}
use Rattle.vl_tree.specs.Values.{Name, Leaf}
use Rattle.vl_model.specs.declared.kind.Kind.TheVariants.{Child}
use Rattle.vl_model.specs.Lines.{Line, joint, sites_behind, Declared, declared, found, lookup, leaf_named}
use Rattle.vl_model.specs.Rules.{name_twice, join_drives, instance_drives, drivers}
use Rattle.vl_model.specs.Whole.{Of}
use Rattle.vl_model.proofs.Passed.{Passes}
use Rattle.vl_model.proofs.Settling.{one-name, itself}
use Rattle.vl_model.proofs.Ordered.{lookup-front}
use Rattle.vl_model.proofs.Tops.{Each, each-map, each-both, Known, count-none, none-found, one-found, found-has, found-none}
use Rattle.label_model.specs.Driven.{of_port, of_instance, driven_by, by_instance}

module _ {X : Type 0} (ls : List Leaf) (out : Leaf → Name → Name → X) where
  -- what each port that drives the net has, and y where none does, the net has
  pub net-has : (P : X → Type 0) (n : Name) (y : X) (is : List TopItem) → (drivers ls (map joint is) n ≡ 0 → P y)
      → Each ls (λ l i js. AllByRecursion (λ (j : Join). join_drives l n j ≡ true → P (out l i j.port)) js) is → P (driven_by ls out is n y)
  net-has P n y [] other h = other refl
  net-has P n y (Wire x m ∷ is) other h = net-has P n y is (λ e. other (omega arith)) h.1
  net-has P n y (Instance l i js ∷ is) other h = go (λ f. net-has P n y is f h.1) (leaf_named ls l) refl h.0
    where
      V : X
      V = driven_by ls out is n y

      value : (x : Leaf) → ((drivers ls (map joint is) n ≡ 0 → P y) → P V) → leaf_named ls l ≡ Some x → AllByRecursion (λ (j : Join). join_drives x n j ≡ true → P (out x i j.port)) js
          → (o : Option Join) → find (join_drives x n) js ≡ o → P (of_port o (out x i) V)
      value x later named here None none = later (λ e. other (ap (λ o. instance_drives n js o + drivers ls (map joint is) n) named ∙ ap (λ k. k + drivers ls (map joint is) n) (found-none (join_drives x n) js none) ∙ omega arith))
      value x later named here (Some j) some = (found-has (join_drives x n) (λ (j : Join). P (out x i j.port)) js j some here).1

      go : ((drivers ls (map joint is) n ≡ 0 → P y) → P V) → (o : Option Leaf) → leaf_named ls l ≡ o
          → Of o (λ x. AllByRecursion (λ (j : Join). join_drives x n j ≡ true → P (out x i j.port)) js) → P (of_instance out i js (leaf_named ls l) n V)
      go later None named here = absurd here
      go later (Some x) named here = subst (λ o. P (of_instance out i js o n V)) (sym named) (value x later named here (find (join_drives x n) js) refl)

  never-of : {A : Type 0} (t : A → Bool) (Q : A → Type 0) (xs : List A) → AllByRecursion (λ x. t x ≡ false) xs → AllByRecursion (λ x. t x ≡ true → Q x) xs
  never-of t Q [] a = tt
  never-of t Q (x ∷ xs) a = ((λ h. absurd (both_ways (t x) a.0 h)), never-of t Q xs a.1)

  none-drive : (n : Name) (is : List TopItem) → Known ls is → drivers ls (map joint is) n ≡ 0 → Each ls (λ l i js. AllByRecursion (λ (j : Join). join_drives l n j ≡ false) js) is
  none-drive n [] k e = tt
  none-drive n (Wire x m ∷ is) k e = (tt, none-drive n is k.1 (omega arith))
  none-drive n (Instance l i js ∷ is) k e = (go (leaf_named ls l) refl k.0, none-drive n is k.1 (omega arith))
    where
      go : (o : Option Leaf) → leaf_named ls l ≡ o → Of o (λ x. Unit {0}) → Of o (λ x. AllByRecursion (λ (j : Join). join_drives x n j ≡ false) js)
      go None is' h = h
      go (Some x) is' h =
          let here : instance_drives n js (leaf_named ls l) ≡ count_by (join_drives x n) js = ap (instance_drives n js) is' in
          count-none (join_drives x n) js (omega arith)

  -- a net with one driver has what that port has
  pub net-one : (n : Name) (y : X) (is : List TopItem) → Known ls is → drivers ls (map joint is) n ≡ 1
      → Each ls (λ l i js. AllByRecursion (λ (j : Join). join_drives l n j ≡ true → driven_by ls out is n y ≡ out l i j.port) js) is
  net-one n y [] k e = tt
  net-one n y (Wire x m ∷ is) k e = (tt, net-one n y is k.1 (omega arith))
  net-one n y (Instance l i js ∷ is) k e = go (net-one n y is k.1) (none-drive n is k.1) (leaf_named ls l) refl k.0
    where
      V : X
      V = driven_by ls out is n y

      Tail : X → Type 0
      Tail value = Each ls (λ l i js. AllByRecursion (λ (j : Join). join_drives l n j ≡ true → value ≡ out l i j.port) js) is

      found-one : (x : Leaf) (ks : List Join) → AllByRecursion (λ (j : Join). join_drives x n j ≡ true → find (join_drives x n) js ≡ Some j) ks
          → AllByRecursion (λ (j : Join). join_drives x n j ≡ true → of_port (find (join_drives x n) js) (out x i) V ≡ out x i j.port) ks
      found-one x [] a = tt
      found-one x (j ∷ ks) a = ((λ h. ap (λ o. of_port o (out x i) V) (a.0 h)), found-one x ks a.1)

      never : Each ls (λ l i js. AllByRecursion (λ (j : Join). join_drives l n j ≡ false) js) is → (value : X) → Tail value
      never none value =
          each-map ls (λ l i js. AllByRecursion (λ (j : Join). join_drives l n j ≡ false) js) (λ l i js. AllByRecursion (λ (j : Join). join_drives l n j ≡ true → value ≡ out l i j.port) js)
          (λ l i js. never-of (join_drives l n) (λ (j : Join). value ≡ out l i j.port) js) is none

      counted : (x : Leaf) → leaf_named ls l ≡ Some x → count_by (join_drives x n) js + drivers ls (map joint is) n ≡ 1
      counted x named = ap (λ o. instance_drives n js o + drivers ls (map joint is) n) (sym named) ∙ e

      with_leaf : (drivers ls (map joint is) n ≡ 1 → Tail V) → (drivers ls (map joint is) n ≡ 0 → Each ls (λ l i js. AllByRecursion (λ (j : Join). join_drives l n j ≡ false) js) is)
          → (x : Leaf) → leaf_named ls l ≡ Some x → (o : Option Join) → find (join_drives x n) js ≡ o
          → AllByRecursion (λ (j : Join). join_drives x n j ≡ true → of_port (find (join_drives x n) js) (out x i) V ≡ out x i j.port) js × Tail (of_port (find (join_drives x n) js) (out x i) V)
      with_leaf one none x named None is' =
          let zero_here = found-none (join_drives x n) js is' in
          let all = counted x named in (
            never-of (join_drives x n) (λ (j : Join). of_port (find (join_drives x n) js) (out x i) V ≡ out x i j.port) js (count-none (join_drives x n) js zero_here),
            subst Tail (sym (ap (λ o. of_port o (out x i) V) is')) (one (omega arith)),
          )
      with_leaf one none x named (Some j) is' =
          let all = counted x named in
          let some : 1 ≤ count_by (join_drives x n) js = not-none (count_by (join_drives x n) js) (λ z. none-some j (sym (none-found (join_drives x n) js (count-none (join_drives x n) js z)) ∙ is')) in
          (found-one x js (one-found (join_drives x n) js (omega arith)), never (none (omega arith)) (of_port (find (join_drives x n) js) (out x i) V))
        where
          not-none : (c : ℕ) → (c ≡ 0 → ⊥) → 1 ≤ c
          not-none c h = omega (arith, h)

      go : (drivers ls (map joint is) n ≡ 1 → Tail V) → (drivers ls (map joint is) n ≡ 0 → Each ls (λ l i js. AllByRecursion (λ (j : Join). join_drives l n j ≡ false) js) is)
          → (o : Option Leaf) → leaf_named ls l ≡ o → Of o (λ x. Unit {0})
          → Of (leaf_named ls l) (λ x. AllByRecursion (λ (j : Join). join_drives x n j ≡ true → of_instance out i js (leaf_named ls l) n V ≡ out x i j.port) js)
          × Tail (of_instance out i js (leaf_named ls l) n V)
      go one none None named h = absurd h
      go one none (Some x) named h = rw named (with_leaf one none x named (find (join_drives x n) js) refl)

-- ---- instances by their names

later-differs : (ls : List Leaf) (all before : List Line) (is : List TopItem) (n : Name) (x : Declared) → Known ls is → Passes name_twice (sites_behind ls all before (map joint is)) → lookup before n ≡ Some x
    → Each ls (λ l i js. bytes_eq i n ≡ false) is
unfolding name_twice
later-differs ls all before [] n x k p e = tt
later-differs ls all before (Wire h m ∷ is) n x k p e = (tt, later-differs ls all (before ++ joint (Wire h m) ∷ []) is n x k.1 p.1 (lookup-front before (joint (Wire h m) ∷ []) n x e))
later-differs ls all before (Instance l i js ∷ is) n x k p e =
    (go (leaf_named ls l) k.0, later-differs ls all (before ++ joint (Instance l i js) ∷ []) is n x k.1 p.1 (lookup-front before (joint (Instance l i js) ∷ []) n x e))
  where
    other : bytes_eq i n ≡ false
    other = false_from_ne_true (bytes_eq i n) (λ same. both_ways (is_some (lookup before i)) p.0 (ap (λ m. is_some (lookup before m)) (one-name i n same) ∙ ap is_some e))

    go : (o : Option Leaf) → Of o (λ x. Unit {0}) → Of o (λ x. bytes_eq i n ≡ false)
    go None h = h
    go (Some y) h = other

lookup-last : (before : List Line) (x : Line) (n : Name) → (y : Declared) → lookup (x ∷ []) n ≡ Some y → (z : Declared) × (lookup (before ++ x ∷ []) n ≡ Some z)
lookup-last before x n y e = go before
  where
    step : (d : Option Declared) (l : Option Declared) → (z : Declared) × (l ≡ Some z) → (z : Declared) × (found d n l ≡ Some z)
    step None l h = h
    step (Some d) l h = at (bytes_eq n d.name) refl
      where
        at : (b : Bool) → bytes_eq n d.name ≡ b → (z : Declared) × (found (Some d) n l ≡ Some z)
        at true is = (d, rw is refl)
        at false is = (h.0, rw is h.1)

    go : (before : List Line) → (z : Declared) × (lookup (before ++ x ∷ []) n ≡ Some z)
    go [] = (y, e)
    go (b ∷ bs) = step (declared b) (lookup (bs ++ x ∷ []) n) (go bs)

-- each instance is found by its name
pub found-at : {X : Type 0} (ls : List Leaf) (all before : List Line) (is : List TopItem) (f : Option Leaf → Name → List Join → X) (other : Name → X) → Known ls is
    → Passes name_twice (sites_behind ls all before (map joint is)) → Each ls (λ l i js. by_instance ls is f other i ≡ f (Some l) i js) is
found-at ls all before [] f other k p = tt
found-at ls all before (Wire h m ∷ is) f other k p = (tt, found-at ls all (before ++ joint (Wire h m) ∷ []) is f other k.1 p.1)
found-at {X = X} ls all before (Instance l i js ∷ is) f other k p = (
  go (leaf_named ls l) refl k.0,
  each-both ls (λ y m ks. bytes_eq m i ≡ false) (λ y m ks. by_instance ls is f other m ≡ f (Some y) m ks) (λ y m ks. by_instance ls (Instance l i js ∷ is) f other m ≡ f (Some y) m ks)
      (λ y m ks differ e. rw differ e) is
      (later-differs ls all (before ++ joint (Instance l i js) ∷ []) is i here.0 k.1 p.1 here.1)
      (found-at ls all (before ++ joint (Instance l i js) ∷ []) is f other k.1 p.1),
)
  where
    here : (z : Declared) × (lookup (before ++ joint (Instance l i js) ∷ []) i ≡ Some z)
    here = lookup-last before (joint (Instance l i js)) i (record { name = i; kind = Child; high = 0; last = 0 }) (rw (itself i) refl)

    go : (o : Option Leaf) → leaf_named ls l ≡ o → Of o (λ x. Unit {0}) → Of o (λ y. by_instance ls (Instance l i js ∷ is) f other i ≡ f (Some y) i js)
    go None is' h = h
    go (Some y) is' h = rw (itself i) (ap (λ o. f o i js) is')
