-- Instances that are added one by one.
use Rattle.std.proofs.Common.{◌≡◌, ℕ, ◌+◌, List, [], ◌∷◌, ◌++◌, refl}
use Rattle.vl_tree.specs.declared.tree.Join.{Join}
use Rattle.vl_tree.specs.declared.tree.TopItem.{TopItem}
use Rattle.vl_tree.specs.declared.tree.TopItem.TheVariants.{Wire, Instance}
use Rattle.vl_tree.specs.Values.{Name, Leaf}
use Rattle.vl_model.specs.Lines.{leaf_named}
use Rattle.vl_model.specs.Whole.{Of}
use Rattle.label_audit.specs.declared.part.Part.{Part}
use Rattle.label_audit.specs.Whole.{IsPart, AllAt}

abbrev pub PartsFrom : List Leaf → ℕ → List TopItem → List Part → Type 0
PartsFrom ls i is ps = AllAt ls (λ l n js p k. IsPart l js p) i is ps

pub wire-more : (ls : List Leaf) (i : ℕ) (is : List TopItem) (ps : List Part) (h : ℕ) (n : Name) → PartsFrom ls i is ps → PartsFrom ls i (is ++ Wire h n ∷ []) ps
wire-more ls i [] ps h n a = a
wire-more ls i (Wire k m ∷ is) ps h n a = wire-more ls i is ps h n a
wire-more ls i (Instance l m js ∷ is) [] h n a = a
wire-more ls i (Instance l m js ∷ is) (p ∷ ps) h n a = (a.0, wire-more ls (i + 1) is ps h n a.1)

pub instance-more : (ls : List Leaf) (i : ℕ) (is : List TopItem) (ps : List Part) (l n : Name) (js : List Join) (p : Part) → Of (leaf_named ls l) (λ y. IsPart y js p) → PartsFrom ls i is ps
    → PartsFrom ls i (is ++ Instance l n js ∷ []) (ps ++ p ∷ [])
instance-more ls i [] [] l n js p new a = (new, refl)
instance-more ls i [] (q ∷ ps) l n js p new a = cc
instance-more ls i (Wire k m ∷ is) ps l n js p new a = instance-more ls i is ps l n js p new a
instance-more ls i (Instance b m ks ∷ is) [] l n js p new a = absurd a
instance-more ls i (Instance b m ks ∷ is) (q ∷ ps) l n js p new a = (a.0, instance-more ls (i + 1) is ps l n js p new a.1)
