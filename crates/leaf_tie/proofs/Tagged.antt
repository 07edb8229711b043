-- What groups have one by one, the leaf has: each name is driven in its own group alone, and assigns stand in order.
use Rattle.std.proofs.Common.{◌≡◌, ◌≢◌, ℕ, zero, suc, ◌+◌, ◌<◌, ◌≤◌, ◌⊎◌, inl, inr, Bool, true, false, List, [], ◌∷◌, ◌++◌, map, refl, ◌∙◌, ap, arith, ◌||◌, bytes_eq}
use Rattle.std.specs.List.{AllByRecursion}
use Rattle.vl_tree.specs.Values.{Name, Item, wire, reg, mem, assign, clocked, store}
use Rattle.vl_model.specs.Meaning.{nets_of}
use Rattle.vl_model.specs.Lines.{item}
use Rattle.vl_model.specs.Rules.{drivers, assigns}
use Rattle.vl_model.specs.Order.{is_assigned, InOrder}
use Rattle.vl_model.proofs.Passed.{all-map}
use Rattle.vl_model.proofs.Settling.{one-name}
use Rattle.vl_model.proofs.Ordered.{drivers-append}
use Rattle.gen_kit.specs.Families.{for_each}
use Rattle.leaf_tie.specs.Tags.{DrivesOwn, AllReads, MayRead, GroupsInOrder}

-- names with other tags are other names
other-name : (tag : Name → ℕ) (n m : Name) (k : ℕ) → tag m ≡ k → tag n ≢ k → bytes_eq n m ≡ false
other-name tag n m k own differ = go (bytes_eq n m) refl
  where
    go : (b : Bool) → bytes_eq n m ≡ b → b ≡ false
    go false e = refl
    go true e = absurd (differ (ap tag (one-name n m e) ∙ own))

-- ---- drivers

pub foreign-drivers : (tag : Name → ℕ) (k : ℕ) (is : List Item) (n : Name) → AllByRecursion (DrivesOwn tag k) is → tag n ≢ k → drivers [] (map item is) n ≡ 0
foreign-drivers tag k [] n own differ = refl
foreign-drivers tag k (assign m e ∷ is) n own differ = rw (other-name tag n m k own.0 differ, foreign-drivers tag k is n own.1 differ) refl
foreign-drivers tag k (clocked m r e ∷ is) n own differ = rw (other-name tag n m k own.0 differ, foreign-drivers tag k is n own.1 differ) refl
foreign-drivers tag k (store c m i e ∷ is) n own differ = rw (other-name tag n m k own.0 differ, foreign-drivers tag k is n own.1 differ) refl
foreign-drivers tag k (wire h m ∷ is) n own differ = rw (foreign-drivers tag k is n own.1 differ) refl
foreign-drivers tag k (reg h m ∷ is) n own differ = rw (foreign-drivers tag k is n own.1 differ) refl
foreign-drivers tag k (mem h m last ∷ is) n own differ = rw (foreign-drivers tag k is n own.1 differ) refl

map-item : (a b : List Item) → map item (a ++ b) ≡ map item a ++ map item b
map-item [] b = refl
map-item (x ∷ a) b = ap (λ xs. item x ∷ xs) (map-item a b)

no-drivers : (tag : Name → ℕ) (n : ℕ) (f : ℕ → List Item) (x : Name) → ((k : ℕ) → k < n → AllByRecursion (DrivesOwn tag k) (f k)) → n ≤ tag x → drivers [] (map item (for_each n f)) x ≡ 0
no-drivers tag zero f x own above = refl
no-drivers tag (suc n) f x own above =
    rw (map-item (for_each n f) (f n), drivers-append [] (map item (for_each n f)) (map item (f n)) x, no-drivers tag n f x (λ k b. own k (omega arith)) (omega arith), foreign-drivers tag n (f n) x (own n (omega arith)) (λ e. omega arith)) refl

-- a name is driven in the whole as often as in its own group
pub own-drivers : (tag : Name → ℕ) (n : ℕ) (f : ℕ → List Item) (x : Name) → ((k : ℕ) → k < n → AllByRecursion (DrivesOwn tag k) (f k)) → tag x < n
    → drivers [] (map item (for_each n f)) x ≡ drivers [] (map item (f (tag x))) x
own-drivers tag zero f x own below = absurd (omega arith)
own-drivers tag (suc n) f x own below = rw (map-item (for_each n f) (f n), drivers-append [] (map item (for_each n f)) (map item (f n)) x) (go (λ h. own-drivers tag n f x (λ k b. own k (omega arith)) h) order)
  where
    order : (tag x < n) ⊎ (tag x ≡ n)
    order = grind arith

    go : (tag x < n → drivers [] (map item (for_each n f)) x ≡ drivers [] (map item (f (tag x))) x) → (tag x < n) ⊎ (tag x ≡ n)
        → drivers [] (map item (for_each n f)) x + drivers [] (map item (f n)) x ≡ drivers [] (map item (f (tag x))) x
    go before (inl h) = rw (before h, foreign-drivers tag n (f n) x (own n (omega arith)) (λ e. omega arith)) (omega arith)
    go before (inr e) = rw (no-drivers tag n f x (λ k b. own k (omega arith)) (omega arith), e) (omega arith)

-- ---- order

assigned-append : (a b : List Item) (m : Name) → is_assigned (a ++ b) m ≡ (is_assigned a m || is_assigned b m)
assigned-append [] b m = refl
assigned-append (x ∷ a) b m = rw (assigned-append a b m) (assoc (assigns m (item x)) (is_assigned a m) (is_assigned b m))
  where
    assoc : (x y z : Bool) → (x || (y || z)) ≡ ((x || y) || z)
    assoc true y z = refl
    assoc false y z = refl

neither : (a b : List Item) (m : Name) → is_assigned a m ≡ false → is_assigned b m ≡ false → is_assigned (a ++ b) m ≡ false
neither a b m e f = rw (assigned-append a b m, e, f) refl

-- what a list assigns
abbrev AllAssigned : (Name → Type 0) → List Item → Type 0
AllAssigned P [] = Unit {0}
AllAssigned P (assign n e ∷ is) = P n × AllAssigned P is
AllAssigned P (wire h n ∷ is) = AllAssigned P is
AllAssigned P (reg h n ∷ is) = AllAssigned P is
AllAssigned P (mem h n last ∷ is) = AllAssigned P is
AllAssigned P (clocked n r e ∷ is) = AllAssigned P is
AllAssigned P (store c n i e ∷ is) = AllAssigned P is

all-both : (a b : List Item) (ms : List Name) → AllByRecursion (λ m. is_assigned a m ≡ false) ms → AllByRecursion (λ m. is_assigned b m ≡ false) ms → AllByRecursion (λ m. is_assigned (a ++ b) m ≡ false) ms
all-both a b [] e f = tt
all-both a b (m ∷ ms) e f = (neither a b m e.0 f.0, all-both a b ms e.1 f.1)

in-order-append : (a b : List Item) → InOrder a → InOrder b → AllReads (λ m. is_assigned b m ≡ false) a → AllAssigned (λ m. is_assigned b m ≡ false) a → InOrder (a ++ b)
in-order-append [] b x y r t = y
in-order-append (assign n e ∷ is) b x y r t = (all-both (assign n e ∷ is) b (nets_of e) x.0 r.0, neither is b n x.1 t.0, in-order-append is b x.2 y r.1 t.1)
in-order-append (wire h n ∷ is) b x y r t = in-order-append is b x y r t
in-order-append (reg h n ∷ is) b x y r t = in-order-append is b x y r t
in-order-append (mem h n last ∷ is) b x y r t = in-order-append is b x y r t
in-order-append (clocked n k e ∷ is) b x y r t = in-order-append is b x y r t
in-order-append (store c n i e ∷ is) b x y r t = in-order-append is b x y r t

not-here : (tag : Name → ℕ) (k : ℕ) (is : List Item) (m : Name) → AllByRecursion (DrivesOwn tag k) is → tag m ≢ k → is_assigned is m ≡ false
not-here tag k [] m own differ = refl
not-here tag k (assign n e ∷ is) m own differ = rw (other-name tag m n k own.0 differ) (not-here tag k is m own.1 differ)
not-here tag k (wire h n ∷ is) m own differ = not-here tag k is m own.1 differ
not-here tag k (reg h n ∷ is) m own differ = not-here tag k is m own.1 differ
not-here tag k (mem h n last ∷ is) m own differ = not-here tag k is m own.1 differ
not-here tag k (clocked n r e ∷ is) m own differ = not-here tag k is m own.1 differ
not-here tag k (store c n i e ∷ is) m own differ = not-here tag k is m own.1 differ

reads-append : (P : Name → Type 0) (a b : List Item) → AllReads P a → AllReads P b → AllReads P (a ++ b)
reads-append P [] b x y = y
reads-append P (assign n e ∷ is) b x y = (x.0, reads-append P is b x.1 y)
reads-append P (wire h n ∷ is) b x y = reads-append P is b x y
reads-append P (reg h n ∷ is) b x y = reads-append P is b x y
reads-append P (mem h n last ∷ is) b x y = reads-append P is b x y
reads-append P (clocked n k e ∷ is) b x y = reads-append P is b x y
reads-append P (store c n i e ∷ is) b x y = reads-append P is b x y

reads-map : (P Q : Name → Type 0) → ((m : Name) → P m → Q m) → (a : List Item) → AllReads P a → AllReads Q a
reads-map P Q f [] x = tt
reads-map P Q f (assign n e ∷ is) x = (all-map P Q f (nets_of e) x.0, reads-map P Q f is x.1)
reads-map P Q f (wire h n ∷ is) x = reads-map P Q f is x
reads-map P Q f (reg h n ∷ is) x = reads-map P Q f is x
reads-map P Q f (mem h n last ∷ is) x = reads-map P Q f is x
reads-map P Q f (clocked n k e ∷ is) x = reads-map P Q f is x
reads-map P Q f (store c n i e ∷ is) x = reads-map P Q f is x

targets-append : (P : Name → Type 0) (a b : List Item) → AllAssigned P a → AllAssigned P b → AllAssigned P (a ++ b)
targets-append P [] b x y = y
targets-append P (assign n e ∷ is) b x y = (x.0, targets-append P is b x.1 y)
targets-append P (wire h n ∷ is) b x y = targets-append P is b x y
targets-append P (reg h n ∷ is) b x y = targets-append P is b x y
targets-append P (mem h n last ∷ is) b x y = targets-append P is b x y
targets-append P (clocked n k e ∷ is) b x y = targets-append P is b x y
targets-append P (store c n i e ∷ is) b x y = targets-append P is b x y

own-targets : (P : Name → Type 0) (tag : Name → ℕ) (k : ℕ) → ((m : Name) → tag m ≡ k → P m) → (is : List Item) → AllByRecursion (DrivesOwn tag k) is → AllAssigned P is
own-targets P tag k f [] own = tt
own-targets P tag k f (assign n e ∷ is) own = (f n own.0, own-targets P tag k f is own.1)
own-targets P tag k f (wire h n ∷ is) own = own-targets P tag k f is own.1
own-targets P tag k f (reg h n ∷ is) own = own-targets P tag k f is own.1
own-targets P tag k f (mem h n last ∷ is) own = own-targets P tag k f is own.1
own-targets P tag k f (clocked n r e ∷ is) own = own-targets P tag k f is own.1
own-targets P tag k f (store c n i e ∷ is) own = own-targets P tag k f is own.1

-- a property of what each group reads, or assigns, of the groups below k
each-reads : (P : Name → Type 0) (k : ℕ) (f : ℕ → List Item) → ((j : ℕ) → j < k → AllReads P (f j)) → AllReads P (for_each k f)
each-reads P zero f h = tt
each-reads P (suc k) f h = reads-append P (for_each k f) (f k) (each-reads P k f (λ j b. h j (omega arith))) (h k (omega arith))

each-targets : (P : Name → Type 0) (k : ℕ) (f : ℕ → List Item) → ((j : ℕ) → j < k → AllAssigned P (f j)) → AllAssigned P (for_each k f)
each-targets P zero f h = tt
each-targets P (suc k) f h = targets-append P (for_each k f) (f k) (each-targets P k f (λ j b. h j (omega arith))) (h k (omega arith))

below-in-order : (tag : Name → ℕ) (n : ℕ) (f : ℕ → List Item) → GroupsInOrder tag n f → (k : ℕ) → k ≤ n → InOrder (for_each k f)
below-in-order tag n f g zero le = tt
below-in-order tag n f g (suc k) le =
    in-order-append (for_each k f) (f k) (below-in-order tag n f g k (omega arith)) (g.each k (omega arith))
    (each-reads (λ m. is_assigned (f k) m ≡ false) k f (λ j b. reads-map (MayRead tag n f j) (λ m. is_assigned (f k) m ≡ false) (λ m may. free j b m may) (f j) (g.reads j (omega arith))))
    (each-targets (λ m. is_assigned (f k) m ≡ false) k f (λ j b. own-targets (λ m. is_assigned (f k) m ≡ false) tag j (λ m e. not-here tag k (f k) m (g.own k (omega arith)) (λ same. omega arith)) (f j) (g.own j (omega arith))))
  where
    free : (j : ℕ) → j < k → (m : Name) → MayRead tag n f j m → is_assigned (f k) m ≡ false
    free j b m (inl earlier) = not-here tag k (f k) m (g.own k (omega arith)) (λ same. omega arith)
    free j b m (inr nowhere) = nowhere k (omega arith)

-- the nets of all groups, one group after another, stand in an order in which each can be assigned when its turn comes
pub groups-in-order : (tag : Name → ℕ) (n : ℕ) (f : ℕ → List Item) → GroupsInOrder tag n f → InOrder (for_each n f)
groups-in-order tag n f g = below-in-order tag n f g n (omega arith)
