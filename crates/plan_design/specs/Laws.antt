-- What the laws say.
use Rattle.std.specs.Prelude.{ℕ, ◌<◌}
use Rattle.noc_model.specs.Plan.{Plan, tiles}
use Rattle.noc_model.specs.Sound.{IsSound}
use Rattle.gen_kit.specs.Right.{IsRightDesign}
use Rattle.leaf_tie.specs.Names.{leaf_module}
use Rattle.top_tie.specs.Holds.{FitsPlan, HoldsTile}
use Rattle.plan_design.specs.Design.{text_sizes, design_module}

-- The sizes of a plan's leaves are enough, and each credit of a link has its own number.
abbrev pub SizesFit : Type 0
SizesFit = (p : Plan) → IsSound p → FitsPlan p (text_sizes p)

-- The leaf of a tile has the groups, names and ports that hold the tile parts of all domains.
abbrev pub LeafHolds : Type 0
LeafHolds = (p : Plan) (n : ℕ) → IsSound p → n < tiles p → HoldsTile p n (text_sizes p) (leaf_module p n)

-- The design of a plan is right: in every run, for every first content of memories and all inputs, each domain's outputs
-- in each cycle are those of a network that holds this domain alone.
abbrev pub PlanIsRight : Type 0
PlanIsRight = (p : Plan) → IsSound p → IsRightDesign p (design_module p)
