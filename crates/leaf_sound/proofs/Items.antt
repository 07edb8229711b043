-- Items that are right among the lines of a leaf, put together.
use Rattle.std.proofs.Common.{◌≡◌, ℕ, zero, suc, ◌+◌, ◌^◌, ◌<◌, ◌≤◌, Bool, true, false, List, [], ◌∷◌, ◌++◌, refl, sym, ap, subst, arith, Option, Some, None, flat_map, if◌then◌else◌, bytes_eq}
use Rattle.std.specs.List.{AllByRecursion}
use Rattle.vl_tree.specs.declared.tree.Const.{Const}
use Rattle.vl_tree.specs.Values.{Name, Expr, Item, wire, reg, mem, assign, clocked, store}
use Rattle.vl_model.specs.Meaning.{one_if}
use Rattle.vl_model.specs.declared.kind.Kind.TheVariants.{Inner, Register}
use Rattle.vl_model.specs.Lines.{Line}
use Rattle.vl_model.proofs.Together.{all-join}
use Rattle.vl_model.proofs.Settling.{itself, one-name}
use Rattle.gen_kit.specs.Families.{for_each}
use Rattle.gen_kit.specs.Groups.{Group}
use Rattle.leaf_tie.specs.Whole.{each_group, to_neighbour}
use Rattle.leaf_sound.proofs.Evened.{declares, driven, driven-append}
use Rattle.leaf_sound.proofs.Rising.{flat-append}
use Rattle.leaf_sound.proofs.Typed.{Net, Is, deeper}
use Rattle.leaf_sound.proofs.Walk.{May, Any, ItemIs, AssignIs}
use Rattle.leaf_sound.proofs.Domain.{Wire}

-- wires and assigns alone, each wire assigned after it
abbrev pub Backed : List Item → Type 0
Backed [] = Unit {0}
Backed (wire h n ∷ is) = (1 ≤ driven n is) × Backed is
Backed (assign n e ∷ is) = Backed is
Backed (reg h n ∷ is) = ⊥
Backed (mem h n last ∷ is) = ⊥
Backed (clocked n k e ∷ is) = ⊥
Backed (store c n i e ∷ is) = ⊥

pub backed-join : (a b : List Item) → Backed a → Backed b → Backed (a ++ b)
backed-join [] b x y = y
backed-join (wire h n ∷ is) b x y = ((let first = x.0 in let split = driven-append n is b in omega (arith, first, split)), backed-join is b x.1 y)
backed-join (assign n e ∷ is) b x y = backed-join is b x y
backed-join (reg h n ∷ is) b x y = absurd x
backed-join (mem h n last ∷ is) b x y = absurd x
backed-join (clocked n k e ∷ is) b x y = absurd x
backed-join (store c n i e ∷ is) b x y = absurd x

-- what is declared among them is driven among them
pub backed-drives : (m : Name) (is : List Item) → Backed is → 1 ≤ declares m is → 1 ≤ driven m is
backed-drives m [] b some = absurd (omega arith)
backed-drives m (wire h n ∷ is) b some = go (bytes_eq m n) refl (backed-drives m is b.1)
  where
    go : (c : Bool) → bytes_eq m n ≡ c → (1 ≤ declares m is → 1 ≤ driven m is) → 1 ≤ 0 + driven m is
    go true e rest = (let is_one : 1 ≤ driven n is = b.0 in let same : driven m is ≡ driven n is = ap (λ x. driven x is) (one-name m n e) in omega (arith, is_one, same))
    go false e rest = (let none = ap one_if e in let more = rest (omega (arith, none, some)) in omega (arith, more))
backed-drives m (assign n e ∷ is) b some = let rest = backed-drives m is b some in omega (arith, rest)
backed-drives m (reg h n ∷ is) b some = absurd b
backed-drives m (mem h n last ∷ is) b some = absurd b
backed-drives m (clocked n k e ∷ is) b some = absurd b
backed-drives m (store c n i e ∷ is) b some = absurd b

module _ (ls : List Line) where
  -- ---- items

  pub record Good (is : List Item) : Type 0 where
    pub all : AllByRecursion (ItemIs ls) is

  pub record GoodNets (is : List Item) : Type 0 where
    pub all : AllByRecursion (ItemIs ls) is
    pub backed : Backed is

  pub good-nil : Good []
  good-nil = record { all = tt }

  pub nets-nil : GoodNets []
  nets-nil = record { all = tt; backed = tt }

  assigned : {n : Name} {e : Expr} {h r d : ℕ} → Wire ls n h r → Is ls (May ls n) e (h + 1) d → d ≤ 200 → AssignIs ls n e
  assigned {n} {e} {h} x y le = record { h = h; kind = Inner; target = x.its; is_its = refl; value = deeper ls (May ls n) 200 le y }

  -- a wire and its assign, and an assign alone
  pub net-next : {n : Name} {e : Expr} {h r d : ℕ} {is : List Item} → Wire ls n h r → Is ls (May ls n) e (h + 1) d → d ≤ 200 → GoodNets is → GoodNets (wire h n ∷ (assign n e ∷ is))
  net-next {n} {e} {h} {r} {d} {is} x y le more = record {
    all = ((x.its.few, x.its.plain), (assigned x y le, more.all));
    backed = ((let one = ap one_if (itself n) in omega (arith, one)), more.backed);
  }

  pub assign-next : {n : Name} {e : Expr} {h r d : ℕ} {is : List Item} → Wire ls n h r → Is ls (May ls n) e (h + 1) d → d ≤ 200 → GoodNets is → GoodNets (assign n e ∷ is)
  assign-next {n} {e} {h} {r} {d} {is} x y le more = record { all = (assigned x y le, more.all); backed = more.backed }

  pub reg-next : {n : Name} {h : ℕ} {is : List Item} → Net ls Register n h → Good is → Good (reg h n ∷ is)
  reg-next x more = record { all = ((x.few, x.plain), more.all) }

  pub wire-next : {n : Name} {h r : ℕ} {is : List Item} → Wire ls n h r → Good is → Good (wire h n ∷ is)
  wire-next x more = record { all = ((x.its.few, x.its.plain), more.all) }

  -- among heads
  pub head-assign : {n : Name} {e : Expr} {h r d : ℕ} {is : List Item} → Wire ls n h r → Is ls (May ls n) e (h + 1) d → d ≤ 200 → Good is → Good (assign n e ∷ is)
  head-assign x y le more = record { all = (assigned x y le, more.all) }

  pub clocked-next : {n : Name} {c : Const} {e : Expr} {h d : ℕ} {is : List Item} → Net ls Register n h → Is ls (Any ls) e (h + 1) d → d ≤ 200 → c.width ≡ h + 1 → c.value < 2 ^ c.width → Good is → Good (clocked n c e ∷ is)
  clocked-next {n} {c} {e} {h} x y le wide small more = record { all = (record { h = h; target = x; value = deeper ls (Any ls) 200 le y; wide = wide; small = small }, more.all) }

  pub good-join : {a b : List Item} → Good a → Good b → Good (a ++ b)
  good-join {a} {b} x y = record { all = all-join (ItemIs ls) a b x.all y.all }

  pub nets-join : {a b : List Item} → GoodNets a → GoodNets b → GoodNets (a ++ b)
  nets-join {a} {b} x y = record { all = all-join (ItemIs ls) a b x.all y.all; backed = backed-join a b x.backed y.backed }

  pub good-each : {f : ℕ → List Item} (n : ℕ) → ((k : ℕ) → k < n → Good (f k)) → Good (for_each n f)
  good-each zero h = good-nil
  good-each (suc n) h = good-join (good-each n (λ k less. h k (omega arith))) (h n (omega arith))

  pub nets-each : {f : ℕ → List Item} (n : ℕ) → ((k : ℕ) → k < n → GoodNets (f k)) → GoodNets (for_each n f)
  nets-each zero h = nets-nil
  nets-each (suc n) h = nets-join (nets-each n (λ k less. h k (omega arith))) (h n (omega arith))

  -- one list or the other
  pub good-if : {a b : List Item} (c : Bool) → (c ≡ true → Good a) → (c ≡ false → Good b) → Good (if c then a else b)
  good-if true x y = x refl
  good-if false x y = y refl

  pub nets-if : {a b : List Item} (c : Bool) → (c ≡ true → GoodNets a) → (c ≡ false → GoodNets b)
      → GoodNets (if c then a else b)
  nets-if true x y = x refl
  nets-if false x y = y refl

  -- ---- groups

  pub record GoodGroups (gs : List Group) : Type 0 where
    pub heads : Good (flat_map (λ (g : Group). g.heads) gs)
    pub nets : GoodNets (flat_map (λ (g : Group). g.nets) gs)
    pub moves : Good (flat_map (λ (g : Group). g.moves) gs)

  pub no-groups : GoodGroups []
  no-groups = record { heads = good-nil; nets = nets-nil; moves = good-nil }

  pub group-next : {g : Group} {gs : List Group} → Good g.heads → GoodNets g.nets → Good g.moves → GoodGroups gs → GoodGroups (g ∷ gs)
  group-next x y z more = record { heads = good-join x more.heads; nets = nets-join y more.nets; moves = good-join z more.moves }

  pub groups-join : {xs ys : List Group} → GoodGroups xs → GoodGroups ys → GoodGroups (xs ++ ys)
  groups-join {xs} {ys} a b = record {
    heads = subst Good (sym (flat-append (λ (g : Group). g.heads) xs ys)) (good-join a.heads b.heads);
    nets = subst GoodNets (sym (flat-append (λ (g : Group). g.nets) xs ys)) (nets-join a.nets b.nets);
    moves = subst Good (sym (flat-append (λ (g : Group). g.moves) xs ys)) (good-join a.moves b.moves);
  }

  pub groups-each : {f : ℕ → List Group} (n : ℕ) → ((k : ℕ) → k < n → GoodGroups (f k)) → GoodGroups (each_group n f)
  groups-each zero h = no-groups
  groups-each (suc n) h = groups-join (groups-each n (λ k less. h k (omega arith))) (h n (omega arith))

  pub groups-if : {xs ys : List Group} (b : Bool) → (b ≡ true → GoodGroups xs) → (b ≡ false → GoodGroups ys) → GoodGroups (if b then xs else ys)
  groups-if true a b = a refl
  groups-if false a b = b refl

  pub groups-neighbour : {f : ℕ → List Group} (x : Option ℕ) → ((m : ℕ) → x ≡ Some m → GoodGroups (f m)) → GoodGroups (to_neighbour f x)
  groups-neighbour None h = no-groups
  groups-neighbour (Some m) h = h m refl
