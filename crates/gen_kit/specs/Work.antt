-- A leaf that is being written.
use Rattle.std.specs.Prelude.{◌++◌, codes, [], ◌∷◌, ℕ}
use Rattle.vl_tree.specs.declared.tree.Port.{Port}
use Rattle.vl_tree.specs.Values.{Name, Item, Leaf}
use Rattle.gen_kit.specs.Ports.{name_with}

-- the name of the tile's leaf
abbrev pub leaf_name : ℕ → Name
leaf_name n = name_with (codes "router") (n ∷ [])

-- the leaf of the tile before it has a port or an item
abbrev pub empty_leaf : ℕ → Leaf
empty_leaf n = record { name = leaf_name n; ports = []; items = [] }

-- the leaf with one port more
abbrev pub with_port : Leaf → Port → Leaf
with_port l p = record { name = l.name; ports = l.ports ++ p ∷ []; items = l.items }

-- the leaf with one item more
abbrev pub with_item : Leaf → Item → Leaf
with_item l i = record { name = l.name; ports = l.ports; items = l.items ++ i ∷ [] }
