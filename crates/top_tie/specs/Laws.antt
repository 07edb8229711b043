-- What the laws say.
use Rattle.std.specs.Prelude.{◌≡◌, ℕ, ◌<◌, Some}
use Rattle.vl_tree.specs.Values.{Name, Leaf, Design}
use Rattle.vl_model.specs.Rules.{IsSound as IsSoundDesign}
use Rattle.vl_model.specs.Whole.{Nets, IsRun}
use Rattle.noc_model.specs.Plan.{Plan, tiles}
use Rattle.noc_model.specs.Sound.{IsSound}
use Rattle.gen_kit.specs.Shape.{HasShape}
use Rattle.gen_kit.specs.Right.{IsRightDesign}
use Rattle.top_tie.specs.Holds.{TextSizes, FitsPlan, HoldsTiles}

-- A sound design of the plan's shape whose leaves hold their tiles is a right design: in every run, for every first
-- content of memories and all inputs, each domain's outputs in each cycle are those of a network of this domain alone.
abbrev pub RightTogether : Type 0
RightTogether = (p : Plan) (z : TextSizes) (d : Design) → IsSound p → FitsPlan p z → IsSoundDesign d → HasShape p d
    → HoldsTiles p z d → IsRightDesign p d
