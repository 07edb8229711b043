-- Each group of a leaf stands in the list of all its groups.
use Rattle.std.proofs.Common.{◌≡◌, ℕ, zero, suc, ◌<◌, ◌≤◌, ◌⊎◌, inl, inr, Bool, true, false, List, [], ◌∷◌, ◌++◌, Option, refl, sym, arith, subst, ◌||◌}
use Rattle.std.specs.Prelude.{Some, None, if◌then◌else◌, flat_map}
use Rattle.std.specs.List.{AllByRecursion}
use Rattle.vl_tree.specs.Values.{Item}
use Rattle.vl_model.specs.Meaning.{Widths, Values}
use Rattle.vl_model.specs.Leaf.{Stepped}
use Rattle.vl_model.specs.Parts.{Holds, AllHold, AllStep}
use Rattle.gen_kit.proofs.Parts.{held-front, held-back}
use Rattle.gen_kit.specs.Families.{any_upto}
use Rattle.gen_kit.specs.Groups.{Group, all_items, HoldsIn}
use Rattle.leaf_tie.specs.Glue.{Moves}
use Rattle.leaf_tie.specs.Whole.{each_group, to_neighbour}

-- the group stands in the list
abbrev pub Member : Group → List Group → Type 0
Member g [] = ⊥
Member g (x ∷ xs) = (x ≡ g) ⊎ Member g xs

pub in-front : (g : Group) (xs ys : List Group) → Member g xs → Member g (xs ++ ys)
in-front g [] ys m = absurd m
in-front g (x ∷ xs) ys (inl e) = inl e
in-front g (x ∷ xs) ys (inr m) = inr (in-front g xs ys m)

pub in-back : (g : Group) (xs ys : List Group) → Member g ys → Member g (xs ++ ys)
in-back g [] ys m = m
in-back g (x ∷ xs) ys m = inr (in-back g xs ys m)

pub in-each : (g : Group) (n : ℕ) (f : ℕ → List Group) (k : ℕ) → k < n → Member g (f k) → Member g (each_group n f)
in-each g zero f k below m = absurd (omega arith)
in-each g (suc n) f k below m = go (λ h. in-each g n f k h m) order
  where
    order : (k < n) ⊎ (k ≡ n)
    order = grind arith

    go : (k < n → Member g (each_group n f)) → (k < n) ⊎ (k ≡ n) → Member g (each_group n f ++ f n)
    go before (inl h) = in-front g (each_group n f) (f n) (before h)
    go before (inr e) = in-back g (each_group n f) (f n) (subst (λ j. Member g (f j)) e m)

pub in-then : (g : Group) (b : Bool) (xs ys : List Group) → b ≡ true → Member g xs → Member g (if b then xs else ys)
in-then g true xs ys e m = m
in-then g false xs ys e m = absurd (cc e)

pub in-else : (g : Group) (b : Bool) (xs ys : List Group) → b ≡ false → Member g ys → Member g (if b then xs else ys)
in-else g true xs ys e m = absurd (cc e)
in-else g false xs ys e m = m

pub in-neighbour : (g : Group) (f : ℕ → List Group) (x : Option ℕ) (m : ℕ) → x ≡ Some m → Member g (f m) → Member g (to_neighbour f x)
in-neighbour g f None m e h = absurd (cc e)
in-neighbour g f (Some k) m e h = let same : k ≡ m = cc e in subst (λ j. Member g (f j)) (sym same) h

or-true : (a b : Bool) → (a ≡ true) ⊎ (b ≡ true) → (a || b) ≡ true
or-true true b h = refl
or-true false true h = refl
or-true false false (inl e) = e
or-true false false (inr e) = e

pub any-member : (n : ℕ) (f : ℕ → Bool) (k : ℕ) → k ≤ n → f k ≡ true → any_upto n f ≡ true
any-member zero f k le e = let none : k ≡ 0 = omega arith in subst (λ j. f j ≡ true) none e
any-member (suc n) f k le e = go (λ h. any-member n f k h e) order
  where
    order : (k ≤ n) ⊎ (k ≡ suc n)
    order = grind arith

    go : (k ≤ n → any_upto n f ≡ true) → (k ≤ n) ⊎ (k ≡ suc n) → (any_upto n f || f (suc n)) ≡ true
    go before (inl h) = or-true (any_upto n f) (f (suc n)) (inl (before h))
    go before (inr is) = or-true (any_upto n f) (f (suc n)) (inr (subst (λ j. f j ≡ true) is e))

-- ---- what the items say

part-held : (P : Item → Type 0) (f : Group → List Item) (g : Group) (gs : List Group) → Member g gs → AllByRecursion P (flat_map f gs) → AllByRecursion P (f g)
part-held P f g [] m h = absurd m
part-held P f g (x ∷ xs) (inl e) h = subst (λ y. AllByRecursion P (f y)) e (held-front P (f x) (flat_map f xs) h)
part-held P f g (x ∷ xs) (inr m) h = part-held P f g xs m (held-back P (f x) (flat_map f xs) h)

module _ (g : Group) (gs : List Group) (m : Member g gs) (P : Item → Type 0) (all : AllByRecursion P (all_items gs)) where
  pub its-heads : AllByRecursion P g.heads
  its-heads = part-held P (λ (x : Group). x.heads) g gs m (held-front P (flat_map (λ (x : Group). x.heads) gs) (flat_map (λ (x : Group). x.nets) gs ++ flat_map (λ (x : Group). x.moves) gs) all)

  rest : AllByRecursion P (flat_map (λ (x : Group). x.nets) gs ++ flat_map (λ (x : Group). x.moves) gs)
  rest = held-back P (flat_map (λ (x : Group). x.heads) gs) (flat_map (λ (x : Group). x.nets) gs ++ flat_map (λ (x : Group). x.moves) gs) all

  pub its-nets : AllByRecursion P g.nets
  its-nets = part-held P (λ (x : Group). x.nets) g gs m (held-front P (flat_map (λ (x : Group). x.nets) gs) (flat_map (λ (x : Group). x.moves) gs) rest)

  pub its-moves : AllByRecursion P g.moves
  its-moves = part-held P (λ (x : Group). x.moves) g gs m (held-back P (flat_map (λ (x : Group). x.nets) gs) (flat_map (λ (x : Group). x.moves) gs) rest)

pub holds-in : (g : Group) (gs : List Group) (w : Widths) (v : Values) → Member g gs → AllHold w v (all_items gs) → HoldsIn g w v
holds-in g gs w v m h = record { heads = its-heads g gs m (Holds w v) h; nets = its-nets g gs m (Holds w v) h }

pub moves-in : (g : Group) (gs : List Group) (w : Widths) (v u : Values) → Member g gs → AllHold w v (all_items gs) → AllHold w u (all_items gs) → AllStep w v u (all_items gs) → Moves g w v u
moves-in g gs w v u m now later steps = record {
  now = holds-in g gs w v m now;
  later = holds-in g gs w u m later;
  steps = record { heads = its-heads g gs m (Stepped w v u) steps; moves = its-moves g gs m (Stepped w v u) steps };
}
