-- A part of a group.
use Rattle.std.specs.Prelude.{List, flat_map}
use Rattle.vl_tree.specs.Values.{Item}
use Rattle.gen_kit.specs.Groups.{Group}
use Rattle.leaf_parts.specs.declared.phase.Phase.{Phase}
use Rattle.leaf_parts.specs.declared.phase.Phase.TheVariants.{Heads, Nets, Moves}

-- the group's items of this part
abbrev pub items_of : Phase → Group → List Item
items_of Heads g = g.heads
items_of Nets g = g.nets
items_of Moves g = g.moves

-- the items of this part of all groups
abbrev pub all_of : Phase → List Group → List Item
all_of part gs = flat_map (items_of part) gs
