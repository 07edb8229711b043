-- Items that drive names in rising order of rank: so each is driven once.
use Rattle.std.proofs.Common.{◌≡◌, ◌≢◌, ℕ, zero, suc, ◌+◌, ◌<◌, ◌≤◌, Bool, true, false, List, [], ◌∷◌, ◌++◌, map, refl, sym, ◌∙◌, ap, subst, arith, lit≤, flat_map, Option, Some, None, if◌then◌else◌, bytes_eq}
use Rattle.vl_tree.specs.declared.tree.Const.{Const}
use Rattle.vl_tree.specs.Values.{Name, Expr, Item, wire, reg, mem, assign, clocked, store}
use Rattle.vl_model.specs.Meaning.{one_if}
use Rattle.vl_model.specs.Lines.{item}
use Rattle.vl_model.specs.Rules.{drivers}
use Rattle.vl_model.proofs.Settling.{one-name}
use Rattle.gen_kit.specs.Families.{for_each}
use Rattle.gen_kit.specs.Groups.{Group}
use Rattle.leaf_tie.specs.Whole.{each_group, to_neighbour}
use Rattle.leaf_sound.proofs.Keyed.{rank}

-- the names that the items drive have ranks from low on, below high, each higher than those before
abbrev pub RiseBy : ℕ → ℕ → List Item → Type 0
RiseBy low high [] = low ≤ high
RiseBy low high (assign n e ∷ is) = (low ≤ rank n) × RiseBy (rank n + 1) high is
RiseBy low high (clocked n k e ∷ is) = (low ≤ rank n) × RiseBy (rank n + 1) high is
RiseBy low high (store c n i e ∷ is) = (low ≤ rank n) × RiseBy (rank n + 1) high is
RiseBy low high (wire h n ∷ is) = RiseBy low high is
RiseBy low high (reg h n ∷ is) = RiseBy low high is
RiseBy low high (mem h n last ∷ is) = RiseBy low high is

-- ---- how they are put together

pub lower : (low more high : ℕ) (is : List Item) → low ≤ more → RiseBy more high is → RiseBy low high is
lower low more high [] le r = omega arith
lower low more high (assign n e ∷ is) le r = ((let first = r.0 in omega (arith, first)), r.1)
lower low more high (clocked n k e ∷ is) le r = ((let first = r.0 in omega (arith, first)), r.1)
lower low more high (store c n i e ∷ is) le r = ((let first = r.0 in omega (arith, first)), r.1)
lower low more high (wire h n ∷ is) le r = lower low more high is le r
lower low more high (reg h n ∷ is) le r = lower low more high is le r
lower low more high (mem h n last ∷ is) le r = lower low more high is le r

pub joined : (low middle high : ℕ) (a b : List Item) → RiseBy low middle a → RiseBy middle high b → RiseBy low high (a ++ b)
joined low middle high [] b x y = lower low middle high b x y
joined low middle high (assign n e ∷ is) b x y = (x.0, joined (rank n + 1) middle high is b x.1 y)
joined low middle high (clocked n k e ∷ is) b x y = (x.0, joined (rank n + 1) middle high is b x.1 y)
joined low middle high (store c n i e ∷ is) b x y = (x.0, joined (rank n + 1) middle high is b x.1 y)
joined low middle high (wire h n ∷ is) b x y = joined low middle high is b x y
joined low middle high (reg h n ∷ is) b x y = joined low middle high is b x y
joined low middle high (mem h n last ∷ is) b x y = joined low middle high is b x y

pub higher : (low high more : ℕ) (is : List Item) → high ≤ more → RiseBy low high is → RiseBy low more is
higher low high more [] le r = omega arith
higher low high more (assign n e ∷ is) le r = (r.0, higher (rank n + 1) high more is le r.1)
higher low high more (clocked n k e ∷ is) le r = (r.0, higher (rank n + 1) high more is le r.1)
higher low high more (store c n i e ∷ is) le r = (r.0, higher (rank n + 1) high more is le r.1)
higher low high more (wire h n ∷ is) le r = higher low high more is le r
higher low high more (reg h n ∷ is) le r = higher low high more is le r
higher low high more (mem h n last ∷ is) le r = higher low high more is le r

each-by : (s : ℕ → ℕ) (n : ℕ) (f : ℕ → List Item) → ((k : ℕ) → k < n → RiseBy (s k) (s (suc k)) (f k)) → RiseBy (s 0) (s n) (for_each n f)
each-by s zero f h = omega arith
each-by s (suc n) f h = joined (s 0) (s n) (s (suc n)) (for_each n f) (f n) (each-by s n f (λ k below. h k (omega arith))) (h n (omega arith))

-- ---- the same, item by item

pub record Rises (low high : ℕ) (is : List Item) : Type 0 where
  pub by : RiseBy low high is

pub nothing : (low high : ℕ) → low ≤ high → Rises low high []
nothing low high le = record { by = le }

later : (low r next high : ℕ) (n : Name) (is : List Item) → rank n ≡ r → low ≤ r → r < next → RiseBy next high is → (low ≤ rank n) × RiseBy (rank n + 1) high is
later low r next high n is e le less more = subst (λ k. (low ≤ k) × RiseBy (k + 1) high is) (sym e) (le, lower (r + 1) next high is (omega arith) more)

-- a wire and its assign, an assign alone, a register, a memory
pub net-next : {h : ℕ} {n : Name} {e : Expr} {is : List Item} (low r next high : ℕ) → rank n ≡ r → low ≤ r → r < next → Rises next high is → Rises low high (wire h n ∷ (assign n e ∷ is))
net-next {h} {n} {e} {is} low r next high is_r le less more = record { by = later low r next high n is is_r le less more.by }

pub assign-next : {n : Name} {e : Expr} {is : List Item} (low r next high : ℕ) → rank n ≡ r → low ≤ r → r < next → Rises next high is → Rises low high (assign n e ∷ is)
assign-next {n} {e} {is} low r next high is_r le less more = record { by = later low r next high n is is_r le less more.by }

pub clocked-next : {n : Name} {c : Const} {e : Expr} {is : List Item} (low r next high : ℕ) → rank n ≡ r → low ≤ r → r < next → Rises next high is → Rises low high (clocked n c e ∷ is)
clocked-next {n} {c} {e} {is} low r next high is_r le less more = record { by = later low r next high n is is_r le less more.by }

pub store-next : {n : Name} {c i e : Expr} {is : List Item} (low r next high : ℕ) → rank n ≡ r → low ≤ r → r < next → Rises next high is → Rises low high (store c n i e ∷ is)
store-next {n} {c} {i} {e} {is} low r next high is_r le less more = record { by = later low r next high n is is_r le less more.by }

-- what is only declared
pub wire-next : {h : ℕ} {n : Name} {is : List Item} (low high : ℕ) → Rises low high is → Rises low high (wire h n ∷ is)
wire-next low high more = record { by = more.by }

pub reg-next : {h : ℕ} {n : Name} {is : List Item} (low high : ℕ) → Rises low high is → Rises low high (reg h n ∷ is)
reg-next low high more = record { by = more.by }

pub mem-next : {h last : ℕ} {n : Name} {is : List Item} (low high : ℕ) → Rises low high is → Rises low high (mem h n last ∷ is)
mem-next low high more = record { by = more.by }

pub wider : {is : List Item} (low more less high : ℕ) → low ≤ more → less ≤ high → Rises more less is → Rises low high is
wider {is} low more less high below above r = record { by = lower low more high is below (higher more less high is above r.by) }

pub join : {a b : List Item} (low middle high : ℕ) → Rises low middle a → Rises middle high b → Rises low high (a ++ b)
join {a} {b} low middle high x y = record { by = joined low middle high a b x.by y.by }

-- families, with the bounds between them
pub each : {f : ℕ → List Item} (s : ℕ → ℕ) (n : ℕ) → ((k : ℕ) → k < n → Rises (s k) (s (suc k)) (f k)) → Rises (s 0) (s n) (for_each n f)
each {f} s n h = record { by = each-by s n f (λ k less. (h k less).by) }

-- one list or the other
pub items-if : {a b : List Item} (low high : ℕ) (c : Bool) → (c ≡ true → Rises low high a)
    → (c ≡ false → Rises low high b) → Rises low high (if c then a else b)
items-if low high true x y = x refl
items-if low high false x y = y refl

-- ---- groups

module _ (part : Group → List Item) where
  pub record GroupsRise (low high : ℕ) (gs : List Group) : Type 0 where
    pub all : Rises low high (flat_map part gs)

  pub flat-append : (xs ys : List Group) → flat_map part (xs ++ ys) ≡ flat_map part xs ++ flat_map part ys
  flat-append [] ys = refl
  flat-append (x ∷ xs) ys = ap (λ z. part x ++ z) (flat-append xs ys) ∙ assoc (part x) (flat_map part xs) (flat_map part ys)
    where
      assoc : (a b c : List Item) → a ++ (b ++ c) ≡ (a ++ b) ++ c
      assoc [] b c = refl
      assoc (x ∷ a) b c = ap (λ z. x ∷ z) (assoc a b c)

  pub no-groups : (low high : ℕ) → low ≤ high → GroupsRise low high []
  no-groups low high le = record { all = nothing low high le }

  pub groups-join : {xs ys : List Group} (low middle high : ℕ) → GroupsRise low middle xs → GroupsRise middle high ys → GroupsRise low high (xs ++ ys)
  groups-join {xs} {ys} low middle high a b = record { all = subst (Rises low high) (sym (flat-append xs ys)) (join low middle high a.all b.all) }

  pub group-next : {x : Group} {xs : List Group} (low middle high : ℕ) → Rises low middle (part x) → GroupsRise middle high xs → GroupsRise low high (x ∷ xs)
  group-next low middle high a b = record { all = join low middle high a b.all }

  -- one group or the other
  pub group-if : {x y : Group} (low high : ℕ) (c : Bool) → (c ≡ true → Rises low high (part x))
      → (c ≡ false → Rises low high (part y)) → Rises low high (part (if c then x else y))
  group-if low high true a b = a refl
  group-if low high false a b = b refl

  pub groups-wider : {xs : List Group} (low more less high : ℕ) → low ≤ more → less ≤ high → GroupsRise more less xs → GroupsRise low high xs
  groups-wider low more less high below above r = record { all = wider low more less high below above r.all }

  pub groups-each : {f : ℕ → List Group} (s : ℕ → ℕ) (n : ℕ) → ((k : ℕ) → k < n → GroupsRise (s k) (s (suc k)) (f k)) → GroupsRise (s 0) (s n) (each_group n f)
  groups-each s zero h = no-groups (s 0) (s 0) (omega arith)
  groups-each {f} s (suc n) h = groups-join (s 0) (s n) (s (suc n)) (groups-each s n (λ k below. h k (omega arith))) (h n (omega arith))

  pub groups-if : {xs ys : List Group} (low high : ℕ) (b : Bool) → (b ≡ true → GroupsRise low high xs) → (b ≡ false → GroupsRise low high ys) → GroupsRise low high (if b then xs else ys)
  groups-if low high true a b = a refl
  groups-if low high false a b = b refl

  pub groups-neighbour : {f : ℕ → List Group} (low high : ℕ) (x : Option ℕ) → low ≤ high → ((m : ℕ) → x ≡ Some m → GroupsRise low high (f m)) → GroupsRise low high (to_neighbour f x)
  groups-neighbour low high None le h = no-groups low high le
  groups-neighbour low high (Some m) le h = h m refl

-- ---- each name is driven once

pub other-rank : (n m : Name) → rank n ≢ rank m → bytes_eq n m ≡ false
other-rank n m differ = go (bytes_eq n m) refl
  where
    go : (b : Bool) → bytes_eq n m ≡ b → b ≡ false
    go false e = refl
    go true e = absurd (differ (ap rank (one-name n m e)))

pub none-below : (low high : ℕ) (is : List Item) (x : Name) → RiseBy low high is → rank x < low → drivers [] (map item is) x ≡ 0
none-below low high [] x r less = refl
none-below low high (assign n e ∷ is) x r less = let first = r.0 in rw (other-rank x n (λ same. omega (arith, first)), none-below (rank n + 1) high is x r.1 (omega (arith, first))) refl
none-below low high (clocked n k e ∷ is) x r less = let first = r.0 in rw (other-rank x n (λ same. omega (arith, first)), none-below (rank n + 1) high is x r.1 (omega (arith, first))) refl
none-below low high (store c n i e ∷ is) x r less = let first = r.0 in rw (other-rank x n (λ same. omega (arith, first)), none-below (rank n + 1) high is x r.1 (omega (arith, first))) refl
none-below low high (wire h n ∷ is) x r less = rw (none-below low high is x r less) refl
none-below low high (reg h n ∷ is) x r less = rw (none-below low high is x r less) refl
none-below low high (mem h n last ∷ is) x r less = rw (none-below low high is x r less) refl

-- this one, or a later one
once-more : (low high : ℕ) (is : List Item) (x n : Name) → RiseBy (rank n + 1) high is → drivers [] (map item is) x ≤ 1 → one_if (bytes_eq x n) + drivers [] (map item is) x ≤ 1
once-more low high is x n r rest = go (bytes_eq x n) refl
  where
    go : (b : Bool) → bytes_eq x n ≡ b → one_if b + drivers [] (map item is) x ≤ 1
    go false e = omega (arith, rest)
    go true e = let same : rank x ≡ rank n = ap rank (one-name x n e) in let none = none-below (rank n + 1) high is x r (omega (arith, same)) in omega (arith, none)

pub once : (low high : ℕ) (is : List Item) (x : Name) → RiseBy low high is → drivers [] (map item is) x ≤ 1
once low high [] x r = lit≤ tt
once low high (assign n e ∷ is) x r = once-more low high is x n r.1 (once (rank n + 1) high is x r.1)
once low high (clocked n k e ∷ is) x r = once-more low high is x n r.1 (once (rank n + 1) high is x r.1)
once low high (store c n i e ∷ is) x r = once-more low high is x n r.1 (once (rank n + 1) high is x r.1)
once low high (wire h n ∷ is) x r = let rest = once low high is x r in omega (arith, rest)
once low high (reg h n ∷ is) x r = let rest = once low high is x r in omega (arith, rest)
once low high (mem h n last ∷ is) x r = let rest = once low high is x r in omega (arith, rest)

pub ends-high : (low high : ℕ) (is : List Item) → RiseBy low high is → low ≤ high
ends-high low high [] r = r
ends-high low high (assign n e ∷ is) r = let first = r.0 in let last = ends-high (rank n + 1) high is r.1 in omega (arith, first, last)
ends-high low high (clocked n k e ∷ is) r = let first = r.0 in let last = ends-high (rank n + 1) high is r.1 in omega (arith, first, last)
ends-high low high (store c n i e ∷ is) r = let first = r.0 in let last = ends-high (rank n + 1) high is r.1 in omega (arith, first, last)
ends-high low high (wire h n ∷ is) r = ends-high low high is r
ends-high low high (reg h n ∷ is) r = ends-high low high is r
ends-high low high (mem h n last ∷ is) r = ends-high low high is r

pub none-above : (low high : ℕ) (is : List Item) (x : Name) → RiseBy low high is → high ≤ rank x → drivers [] (map item is) x ≡ 0
none-above low high [] x r more = refl
none-above low high (assign n e ∷ is) x r more = let last = ends-high (rank n + 1) high is r.1 in rw (other-rank x n (λ same. omega (arith, last)), none-above (rank n + 1) high is x r.1 more) refl
none-above low high (clocked n k e ∷ is) x r more = let last = ends-high (rank n + 1) high is r.1 in rw (other-rank x n (λ same. omega (arith, last)), none-above (rank n + 1) high is x r.1 more) refl
none-above low high (store c n i e ∷ is) x r more = let last = ends-high (rank n + 1) high is r.1 in rw (other-rank x n (λ same. omega (arith, last)), none-above (rank n + 1) high is x r.1 more) refl
none-above low high (wire h n ∷ is) x r more = rw (none-above low high is x r more) refl
none-above low high (reg h n ∷ is) x r more = rw (none-above low high is x r more) refl
none-above low high (mem h n last ∷ is) x r more = rw (none-above low high is x r more) refl
