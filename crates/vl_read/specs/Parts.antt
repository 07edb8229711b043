-- The lists of a module, each with what closes it.
use Rattle.std.specs.Prelude.{List, codes}
use Rattle.vl_tree.specs.declared.tree.Port.{Port}
use Rattle.vl_tree.specs.declared.tree.Join.{Join}
use Rattle.vl_tree.specs.declared.tree.Top.{Top}
use Rattle.vl_tree.specs.declared.tree.TopItem.{TopItem}
use Rattle.vl_tree.specs.Values.{Name, Item, Leaf}
use Rattle.vl_tree.specs.Reading.{Reader, until, one, closed, the_name, phrase, is_mark, is_name_token, goes_on, port_at, item_at, join_at, top_item_at, leaf_at, top_at}

-- the ports of a module, and the end of its port list
abbrev pub ports_at : Reader (List Port × Unit {0})
ports_at = until (is_mark (codes ",")) port_at (phrase (codes ") ;"))

-- the items of a leaf, its end, and the word that begins the next module
abbrev pub items_at : Reader (List Item × Unit {0})
items_at = until goes_on item_at (phrase (codes "endmodule module"))

-- the joins of an instance, and its end
abbrev pub joins_at : Reader (List Join × Unit {0})
joins_at = until (is_mark (codes ",")) join_at (phrase (codes ") ;"))

-- the items of the top, and its end
abbrev pub top_items_at : Reader (List TopItem × Unit {0})
top_items_at = until goes_on top_item_at (phrase (codes "endmodule"))

-- the modules behind the first word module: all leaves, and then the top
abbrev pub modules_behind : Reader (List Leaf × Top)
modules_behind = until is_name_token leaf_at top_at

-- the name of an instance, and what stands before its joins
abbrev pub instance_name_at : Reader Name
instance_name_at = closed (one the_name) (codes "( . clk ( clk ) , . rst ( rst )")
