-- The design of a plan from its leaves and its top.
use Rattle.std.proofs.Common.{◌≡◌, ℕ, List, map, sym, subst}
use Rattle.vl_tree.specs.declared.tree.Leaf as code
use Rattle.vl_tree.specs.declared.tree.Design as design
use Rattle.vl_tree.specs.declared.tree.Top.{Top}
use Rattle.vl_tree.specs.Read.{read_leaves, read_design}
use Rattle.vl_tree.specs.Spells.{Spells}
use Rattle.vl_tree.specs.Values.{Design}
use Rattle.noc_model.specs.Plan.{Plan}
use Rattle.noc_model.specs.Sound.{IsSound}
use Rattle.gen_kit.specs.Right.{IsRightDesign, IsRightText}
use Rattle.gen_kit.specs.Shape.{all_tiles}
use Rattle.leaf_tie.specs.Names.{leaf_module}
use Rattle.plan_design.proofs.Whole.{plan-is-right}
use Rattle.plan_design.specs.Design.{top_module, design_module}

-- a design with these leaves and this top
abbrev pub design_with : List code.Leaf → Top → design.Design
design_with leaves top = record { leaves = leaves; top = top }

module _ (p : Plan) (leaves : List code.Leaf) (top : Top) (its : read_leaves leaves ≡ map (leaf_module p) (all_tiles p)) (is : top ≡ top_module p) where
  pub is-design : read_design (design_with leaves top) ≡ design_module p
  is-design = cc

  pub is-right : IsSound p → IsRightDesign p (read_design (design_with leaves top))
  is-right sound = subst (IsRightDesign p) (sym is-design) (plan-is-right p sound)

-- bytes that spell a right design
pub right-text : (p : Plan) (d : Design) → IsRightDesign p d → (bytes : List ℕ) → Spells bytes d → IsRightText p bytes
right-text p d right bytes spelled = record { design = d; spelled = spelled; right = right }
