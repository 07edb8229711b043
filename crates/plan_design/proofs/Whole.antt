-- The design of a plan is right.
use Rattle.std.proofs.Common.{◌≡◌, ℕ, zero, suc, ◌<◌, false, List, [], ◌∷◌, map, refl, ◌∙◌, ap, subst, arith, bytes_eq, cond}
use Rattle.std.specs.Prelude.{Some}
use Rattle.vl_model.specs.Lines.{leaf_named}
use Rattle.vl_model.specs.Rules.{IsSoundLeaf}
use Rattle.vl_model.proofs.Settling.{itself}
use Rattle.noc_model.specs.Events.{tabulate}
use Rattle.noc_model.specs.Plan.{Plan, tiles}
use Rattle.noc_model.specs.Sound.{IsSound}
use Rattle.gen_kit.specs.Shape.{head_of, tile_head, all_tiles, HasShape}
use Rattle.gen_kit.specs.Work.{leaf_name}
use Rattle.leaf_tie.specs.Names.{leaf_module}
use Rattle.leaf_sound.proofs.Sounded.{leaf-sound}
use Rattle.shape_sound.proofs.Listed.{to-numbers, to-mapped}
use Rattle.shape_sound.proofs.Shaped.{shape-is-sound}
use Rattle.shape_sound.proofs.Top.{leaf-apart}
use Rattle.top_tie.specs.Holds.{HoldsTile, HoldsTiles}
use Rattle.top_tie.proofs.Right.{right-together}
use Rattle.plan_design.specs.Design.{text_sizes, design_module}
use Rattle.plan_design.specs.Laws.{PlanIsRight}
use Rattle.plan_design.proofs.Credits.{sizes-fit}
use Rattle.plan_design.proofs.Held.{held}

same-heads : (p : Plan) (ns : List ℕ) → map head_of (map (leaf_module p) ns) ≡ map (tile_head p) ns
same-heads p [] = refl
same-heads p (n ∷ ns) = ap (λ hs. tile_head p n ∷ hs) (same-heads p ns)

pub its-shape : (p : Plan) → HasShape p (design_module p)
its-shape p = record { leaves = same-heads p (all_tiles p); ports = refl; items = refl }

-- a tile's leaf is found by its name
found : (p : Plan) (k : ℕ) (g : ℕ → ℕ) → ((i j : ℕ) → i < j → j < k → bytes_eq (leaf_name (g j)) (leaf_name (g i)) ≡ false) → (i : ℕ) → i < k
    → leaf_named (map (leaf_module p) (tabulate k g)) (leaf_name (g i)) ≡ Some (leaf_module p (g i))
found p zero g apart i below = absurd (omega (arith, below))
found p (suc k) g apart zero below =
    ap (λ b. cond b (Some (leaf_module p (g 0))) (leaf_named (map (leaf_module p) (tabulate k (λ j. g (suc j)))) (leaf_name (g 0)))) (itself (leaf_name (g 0)))
found p (suc k) g apart (suc i) below =
    ap (λ b. cond b (Some (leaf_module p (g 0))) (leaf_named (map (leaf_module p) (tabulate k (λ j. g (suc j)))) (leaf_name (g (suc i))))) (apart 0 (suc i) (omega arith) below)
    ∙ found p k (λ j. g (suc j)) (λ a b less under. apart (suc a) (suc b) (omega (arith, less)) (omega (arith, under))) i (omega (arith, below))

all-hold : (p : Plan) → IsSound p → HoldsTiles p (text_sizes p) (design_module p)
all-hold p sound n l below e =
    let is : leaf_module p n ≡ l = cc (found p (tiles p) (λ k. k) (leaf-apart p sound) n below, e) in
    subst (HoldsTile p n (text_sizes p)) is (held p n sound below)

pub plan-is-right : PlanIsRight
plan-is-right p sound =
    right-together p (text_sizes p) (design_module p) sound (sizes-fit p sound)
    (shape-is-sound p (design_module p) sound (its-shape p) (to-mapped IsSoundLeaf (leaf_module p) (all_tiles p)
    (to-numbers (λ n. IsSoundLeaf (leaf_module p n)) (tiles p) (λ n. n) (λ n below. leaf-sound p n sound below))))
    (its-shape p) (all-hold p sound)
