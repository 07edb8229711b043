-- What a leaf's items say, each of its groups' items say.
use Rattle.std.proofs.Common.{ℕ, zero, suc, ◌<◌, List, [], ◌∷◌, length, arith}
use Rattle.std.specs.Prelude.{flat_map}
use Rattle.std.specs.List.{AllByRecursion}
use Rattle.vl_tree.specs.Values.{Item}
use Rattle.vl_model.specs.Meaning.{Widths, Values}
use Rattle.vl_model.specs.Leaf.{Stepped}
use Rattle.vl_model.specs.Parts.{Holds, AllHold, AllStep}
use Rattle.gen_kit.proofs.Parts.{held-front, held-back}
use Rattle.gen_kit.specs.Groups.{Group, all_items}
use Rattle.leaf_tie.specs.Glue.{Moves, at_or}

flat-held : (P : Item → Type 0) (f : Group → List Item) (gs : List Group) (k : ℕ) (g : Group) → k < length gs → AllByRecursion P (flat_map f gs) → AllByRecursion P (f (at_or gs k g))
flat-held P f [] k g below h = absurd (omega arith)
flat-held P f (x ∷ xs) zero g below h = held-front P (f x) (flat_map f xs) h
flat-held P f (x ∷ xs) (suc k) g below h = flat-held P f xs k g (omega arith) (held-back P (f x) (flat_map f xs) h)

-- each group of a leaf moves over an edge
pub moves-of : (gs : List Group) (w : Widths) (v u : Values) → AllHold w v (all_items gs) → AllHold w u (all_items gs) → AllStep w v u (all_items gs) → (k : ℕ) (g : Group) → k < length gs → Moves (at_or gs k g) w v u
moves-of gs w v u now later steps k g below = record {
  now = record { heads = heads (Holds w v) now; nets = nets (Holds w v) now };
  later = record { heads = heads (Holds w u) later; nets = nets (Holds w u) later };
  steps = record { heads = heads (Stepped w v u) steps; moves = moves (Stepped w v u) steps };
}
  where
    all_heads : List Item
    all_heads = flat_map (λ (g : Group). g.heads) gs

    all_nets : List Item
    all_nets = flat_map (λ (g : Group). g.nets) gs

    all_moves : List Item
    all_moves = flat_map (λ (g : Group). g.moves) gs

    heads : (P : Item → Type 0) → AllByRecursion P (all_items gs) → AllByRecursion P (at_or gs k g).heads
    heads P h = flat-held P (λ (g : Group). g.heads) gs k g below (held-front P (flat_map (λ (g : Group). g.heads) gs) _ h)

    nets : (P : Item → Type 0) → AllByRecursion P (all_items gs) → AllByRecursion P (at_or gs k g).nets
    nets P h = flat-held P (λ (g : Group). g.nets) gs k g below (held-front P (flat_map (λ (g : Group). g.nets) gs) _ (held-back P (flat_map (λ (g : Group). g.heads) gs) _ h))

    moves : (P : Item → Type 0) → AllByRecursion P (all_items gs) → AllByRecursion P (at_or gs k g).moves
    moves P h = flat-held P (λ (g : Group). g.moves) gs k g below (held-back P (flat_map (λ (g : Group). g.nets) gs) _ (held-back P (flat_map (λ (g : Group). g.heads) gs) _ h))
