-- Whose names are whose. Each group of a leaf has a number, its tag, and each name that the leaf's items make says the
-- tag of its
-- group. So what a group declares and drives is no other group's, whatever the groups are.
use Rattle.std.specs.Prelude.{◌≡◌, ℕ, ◌<◌, ◌≤◌, ◌⊎◌, false, List, [], ◌∷◌}
use Rattle.std.specs.List.{AllByRecursion}
use Rattle.vl_tree.specs.Values.{Name, Item, wire, reg, mem, assign, clocked, store}
use Rattle.vl_model.specs.Meaning.{nets_of}
use Rattle.vl_model.specs.Order.{is_assigned, InOrder}

-- the item drives a name of the group, or nothing
abbrev pub DrivesOwn : (Name → ℕ) → ℕ → Item → Type 0
DrivesOwn tag k (assign n e) = tag n ≡ k
DrivesOwn tag k (clocked n r e) = tag n ≡ k
DrivesOwn tag k (store c n i e) = tag n ≡ k
DrivesOwn tag k (wire h n) = Unit {0}
DrivesOwn tag k (reg h n) = Unit {0}
DrivesOwn tag k (mem h n last) = Unit {0}

-- what assigns read
abbrev pub AllReads : (Name → Type 0) → List Item → Type 0
AllReads P [] = Unit {0}
AllReads P (assign n e ∷ is) = AllByRecursion P (nets_of e) × AllReads P is
AllReads P (wire h n ∷ is) = AllReads P is
AllReads P (reg h n ∷ is) = AllReads P is
AllReads P (mem h n last ∷ is) = AllReads P is
AllReads P (clocked n r e ∷ is) = AllReads P is
AllReads P (store c n i e ∷ is) = AllReads P is

-- a group reads nets of its own, of earlier groups, and what no group assigns: ports and registers
abbrev pub MayRead : (Name → ℕ) → ℕ → (ℕ → List Item) → ℕ → Name → Type 0
MayRead tag n f k m = (tag m ≤ k) ⊎ ((j : ℕ) → j < n → is_assigned (f j) m ≡ false)

-- the nets of the groups below n, each in order by itself
pub record GroupsInOrder (tag : Name → ℕ) (n : ℕ) (f : ℕ → List Item) : Type 0 where
  pub own : (k : ℕ) → k < n → AllByRecursion (DrivesOwn tag k) (f k)
  pub each : (k : ℕ) → k < n → InOrder (f k)
  pub reads : (k : ℕ) → k < n → AllReads (MayRead tag n f k) (f k)
