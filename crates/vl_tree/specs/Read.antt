-- The data that a design of the code stands for.
use Rattle.std.specs.Prelude.{List, [], ◌∷◌, map}
use Rattle.vl_tree.specs.declared.tree.Expr as code
use Rattle.vl_tree.specs.declared.tree.Expr.TheOpen.{Expr-F}
use Rattle.vl_tree.specs.declared.tree.LeafItem.TheVariants as items
use Rattle.vl_tree.specs.declared.tree.LeafItem.{LeafItem}
use Rattle.vl_tree.specs.declared.tree.Leaf as leaves
use Rattle.vl_tree.specs.declared.tree.Design as designs
use Rattle.vl_tree.specs.Values.{Expr, Exprs, net, number, bit, part, word, not, two, choose, cat, no_parts, parts, Item, wire, reg, mem, assign, clocked, store, Leaf, Design}

-- a list of expressions, as the parts of a concatenation
abbrev pub parts_of : List Expr → Exprs
parts_of [] = no_parts
parts_of (e ∷ es) = parts e (parts_of es)

-- one level, with each expression inside already read
abbrev pub read_step : Expr-F Expr → Expr
read_step (Expr-F.Net n) = net n
read_step (Expr-F.Number k) = number k
read_step (Expr-F.Bit n i) = bit n i
read_step (Expr-F.Part n h l) = part n h l
read_step (Expr-F.Word n e) = word n e
read_step (Expr-F.Not e) = not e
read_step (Expr-F.Two op a b) = two op a b
read_step (Expr-F.If c a b) = choose c a b
read_step (Expr-F.Cat es) = cat (parts_of es)

-- the expression that one of the code stands for
abbrev pub read : code.Expr → Expr
read = code.fold-Expr Expr read_step

-- the parts of a concatenation, for a list of expressions of the code
abbrev pub reads : List code.Expr → Exprs
reads es = parts_of (map read es)

-- the item that one of the code stands for
abbrev pub read_item : LeafItem → Item
read_item (items.Wire h n) = wire h n
read_item (items.Reg h n) = reg h n
read_item (items.Mem h n last) = mem h n last
read_item (items.Assign n e) = assign n (read e)
read_item (items.Clocked n r e) = clocked n r (read e)
read_item (items.Store c n i e) = store (read c) n (read i) (read e)

-- its items, in order
abbrev pub read_items : List LeafItem → List Item
read_items is = map read_item is

-- the leaf that one of the code stands for
abbrev pub read_leaf : leaves.Leaf → Leaf
read_leaf l = record { name = l.name; ports = l.ports; items = read_items l.items }

-- its leaves, in order
abbrev pub read_leaves : List leaves.Leaf → List Leaf
read_leaves ls = map read_leaf ls

-- the design that one of the code stands for
abbrev pub read_design : designs.Design → Design
read_design d = record { leaves = read_leaves d.leaves; top = d.top }
