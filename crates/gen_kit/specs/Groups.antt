-- A group of items: what it declares before any net is assigned, its nets in order, and what moves at an edge. A leaf
-- has the heads of all groups, then the nets of all groups, then the moves of all groups.
use Rattle.std.specs.Prelude.{List, ◌++◌, flat_map}
use Rattle.vl_tree.specs.Values.{Item}
use Rattle.vl_model.specs.Meaning.{Widths, Values}
use Rattle.vl_model.specs.Parts.{AllHold, AllStep, AllReset}

-- the items of one part of a leaf, in the three places where they stand
pub record Group : Type 0 where
  pub heads : List Item
  pub nets : List Item
  pub moves : List Item

-- the items of a leaf that has these groups
abbrev pub all_items : List Group → List Item
all_items gs = flat_map (λ (g : Group). g.heads) gs
    ++ (flat_map (λ (g : Group). g.nets) gs ++ flat_map (λ (g : Group). g.moves) gs)

-- the group's items hold in a cycle
pub record HoldsIn (g : Group) (w : Widths) (v : Values) : Type 0 where
  pub heads : AllHold w v g.heads
  pub nets : AllHold w v g.nets

-- what a group gives in every cycle of every leaf that has it
abbrev pub GroupGives : Group → (Widths → Values → Type 0) → Type 0
GroupGives g P = (w : Widths) (v : Values) → HoldsIn g w v → P w v

-- its registers and memories move over an edge. A buffer's moves stand among its heads
pub record StepsIn (g : Group) (w : Widths) (v u : Values) : Type 0 where
  pub heads : AllStep w v u g.heads
  pub moves : AllStep w v u g.moves

-- what it keeps from one cycle to the next, where its widths are those of both cycles
abbrev pub GroupKeeps : Group → (Widths → Values → Values → Type 0) → Type 0
GroupKeeps g P = (w : Widths) (v u : Values) → HoldsIn g w v → HoldsIn g w u → StepsIn g w v u → P w v u

-- what it begins with
abbrev pub GroupStarts : Group → (Values → Type 0) → Type 0
GroupStarts g P = (v : Values) → AllReset v g.moves → P v
