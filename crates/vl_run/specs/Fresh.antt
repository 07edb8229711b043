-- Instances as they are built, at reset.
use Rattle.std.specs.Prelude.{◌≡◌, ℕ, ◌≤◌, List, [], ◌∷◌, length, Option, Some, None}
use Rattle.vl_tree.specs.declared.tree.Join.{Join}
use Rattle.vl_tree.specs.declared.tree.TopItem.{TopItem}
use Rattle.vl_tree.specs.declared.tree.TopItem.TheVariants.{Wire, Instance}
use Rattle.vl_tree.specs.Values.{Name, Leaf, Design}
use Rattle.vl_model.specs.Lines.{leaf_lines, top_lines, leaf_named}
use Rattle.vl_model.specs.Leaf.{leaf_widths}
use Rattle.vl_model.specs.Whole.{InstanceHas}
use Rattle.vl_run.specs.Places.{ArePlaces}
use Rattle.vl_run.specs.State.{Part, code_of}
use Rattle.vl_run.specs.Start.{IsStart}
use Rattle.vl_run.specs.Top.{places_of}

-- the instance has its leaf's code, and is at reset. Names of the top stand at t
pub record IsFresh (t : Name → ℕ) (l : Leaf) (joins : List Join) (x : Part) : Type 0 where
  pub place : Name → ℕ
  pub places : ArePlaces (leaf_lines l) place
  pub code : x.code ≡ code_of place (leaf_widths l) t l joins
  pub start : IsStart place l x.code x.kept

-- the same, and there is such a leaf
abbrev pub FreshAt : (Name → ℕ) → Option Leaf → List Join → Part → Type 0
FreshAt t None joins x = ⊥
FreshAt t (Some l) joins x = IsFresh t l joins x

-- so are all instances, in the order of the items
abbrev pub AllFresh : (Name → ℕ) → List Leaf → List TopItem → List Part → Type 0
AllFresh t leaves [] xs = xs ≡ []
AllFresh t leaves (Wire h n ∷ is) xs = AllFresh t leaves is xs
AllFresh t leaves (Instance l n joins ∷ is) [] = ⊥
AllFresh t leaves (Instance l n joins ∷ is) (x ∷ xs) = FreshAt t (leaf_named leaves l) joins x × AllFresh t leaves is xs

-- if the item is an instance, there is a leaf of its name
abbrev pub HasLeaf : List Leaf → TopItem → Type 0
HasLeaf leaves item = InstanceHas leaves (λ l n joins. Unit {0}) item

-- all that a machine begins with
pub record IsBegun (d : Design) (parts : List Part) (tops ports : List ℕ) : Type 0 where
  pub top : Name → ℕ
  pub places : ArePlaces (top_lines d.top) top
  pub fresh : AllFresh top d.leaves d.top.items parts
  pub room : length (top_lines d.top) ≤ length tops
  pub named : ports ≡ places_of top d.top.ports
