-- What the laws say.
use Rattle.std.specs.List.{AllByRecursion}
use Rattle.vl_tree.specs.Values.{Design}
use Rattle.vl_model.specs.Rules.{IsSound as IsSoundDesign, IsSoundLeaf}
use Rattle.noc_model.specs.Plan.{Plan}
use Rattle.noc_model.specs.Sound.{IsSound}
use Rattle.gen_kit.specs.Shape.{HasShape}

-- A design of a plan's shape is sound where its leaves are sound by themselves: the top keeps every rule.
abbrev pub ShapeIsSound : Type 0
ShapeIsSound = (p : Plan) (d : Design) → IsSound p → HasShape p d → AllByRecursion IsSoundLeaf d.leaves
    → IsSoundDesign d
