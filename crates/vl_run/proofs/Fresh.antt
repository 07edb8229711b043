-- Instances that are built one by one.
use Rattle.std.proofs.Common.{◌≡◌, ℕ, zero, suc, ◌<◌, List, [], ◌∷◌, ◌++◌, length, get_or, take, refl, sym, ◌∙◌, ap, subst, arith}
use Rattle.std.specs.List.{AllByRecursion}
use Rattle.std.proofs.lemmas.List.{length-map}
use Rattle.std.proofs.Math.Seq.{take-length}
use Rattle.vl_tree.specs.declared.tree.Join.{Join}
use Rattle.vl_tree.specs.declared.tree.Leaf as code
use Rattle.vl_tree.specs.declared.tree.TopItem.{TopItem}
use Rattle.vl_tree.specs.declared.tree.TopItem.TheVariants.{Wire, Instance}
use Rattle.vl_tree.specs.Values.{Name, Leaf}
use Rattle.vl_tree.specs.Read.{read_leaf, read_leaves}
use Rattle.vl_model.specs.Lines.{leaf_named}
use Rattle.vl_run.specs.State.{Part}
use Rattle.vl_run.specs.Fresh.{FreshAt, AllFresh, HasLeaf}

pub wire-more : (t : Name → ℕ) (ls : List Leaf) (is : List TopItem) (xs : List Part) (h : ℕ) (n : Name) → AllFresh t ls is xs → AllFresh t ls (is ++ Wire h n ∷ []) xs
wire-more t ls [] xs h n f = f
wire-more t ls (Wire k m ∷ is) xs h n f = wire-more t ls is xs h n f
wire-more t ls (Instance l m js ∷ is) [] h n f = f
wire-more t ls (Instance l m js ∷ is) (x ∷ xs) h n f = (f.0, wire-more t ls is xs h n f.1)

pub instance-more : (t : Name → ℕ) (ls : List Leaf) (is : List TopItem) (xs : List Part) (l n : Name) (js : List Join) (x : Part) → FreshAt t (leaf_named ls l) js x → AllFresh t ls is xs
    → AllFresh t ls (is ++ Instance l n js ∷ []) (xs ++ x ∷ [])
instance-more t ls [] [] l n js x new f = (new, refl)
instance-more t ls [] (y ∷ xs) l n js x new f = cc
instance-more t ls (Wire k m ∷ is) xs l n js x new f = instance-more t ls is xs l n js x new f
instance-more t ls (Instance a m ks ∷ is) [] l n js x new f = absurd f
instance-more t ls (Instance a m ks ∷ is) (y ∷ xs) l n js x new f = (f.0, instance-more t ls is xs l n js x new f.1)

pub all-leaves : (ls : List code.Leaf) → take (length ls) (read_leaves ls) ≡ read_leaves ls
all-leaves ls = ap (λ k. take k (read_leaves ls)) (sym (length-map ls read_leaf)) ∙ take-length (read_leaves ls)

pub leaf-at : (ls : List Leaf) (is : List TopItem) (i : ℕ) (x : TopItem) → i < length is → x ≡ get_or is i x → AllByRecursion (HasLeaf ls) is → HasLeaf ls x
leaf-at ls [] i x h e a = absurd (omega arith)
leaf-at ls (y ∷ is) zero x h e a = subst (HasLeaf ls) (sym e) a.0
leaf-at ls (y ∷ is) (suc i) x h e a = leaf-at ls is i x (omega arith) e a.1
