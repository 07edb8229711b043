-- What each part of a plain design is, in one test for each.
use Rattle.std.specs.Prelude.{ℕ, ◌-◌, ◌^◌, Bool, true, false, ◌&&◌, nat_lt, nat_le}
use Rattle.std.specs.List.{list_all}
use Rattle.vl_tree.specs.declared.tree.Const.{Const}
use Rattle.vl_tree.specs.declared.tree.Port.{Port}
use Rattle.vl_tree.specs.declared.tree.Join.{Join}
use Rattle.vl_tree.specs.declared.tree.TopItem.{TopItem}
use Rattle.vl_tree.specs.declared.tree.TopItem.TheVariants.{Wire, Instance}
use Rattle.vl_tree.specs.Tokens.{is_name}
use Rattle.vl_tree.specs.Grammar.{limit}
use Rattle.vl_tree.specs.Values as values
use Rattle.vl_tree.specs.Values.{Name, Expr, Exprs, net, number, bit, part, word, not, two, choose, cat, no_parts, parts, Item, wire, reg, mem, assign, clocked, store, Design}

-- a number of at most nine decimal digits
abbrev pub plain_number : ℕ → Bool
plain_number v = nat_lt v 1_000_000_000

-- a constant of 1 to 64 bits whose value fits them
abbrev pub plain_const : Const → Bool
plain_const k = nat_lt 0 k.width && nat_le k.width 64 && nat_lt k.value (2 ^ k.width)

-- an expression of at most d levels, with plain names and numbers, in which each concatenation has a part; then a
-- concatenation's parts, each of at most d levels
abbrev mutual
  pub plain_expr : ℕ → Expr → Bool
  plain_expr d (net n) = nat_lt 0 d && is_name n
  plain_expr d (number k) = nat_lt 0 d && plain_const k
  plain_expr d (bit n i) = nat_lt 0 d && is_name n && plain_number i
  plain_expr d (part n h l) = nat_lt 0 d && is_name n && plain_number h && plain_number l
  plain_expr d (word n e) = nat_lt 0 d && is_name n && plain_expr (d - 1) e
  plain_expr d (not e) = nat_lt 0 d && plain_expr (d - 1) e
  plain_expr d (two op a b) = nat_lt 0 d && plain_expr (d - 1) a && plain_expr (d - 1) b
  plain_expr d (choose c a b) = nat_lt 0 d && plain_expr (d - 1) c && plain_expr (d - 1) a && plain_expr (d - 1) b
  plain_expr d (cat no_parts) = false
  plain_expr d (cat (parts e es)) = nat_lt 0 d && plain_expr (d - 1) e && plain_exprs (d - 1) es

  pub plain_exprs : ℕ → Exprs → Bool
  plain_exprs d no_parts = true
  plain_exprs d (parts e es) = plain_expr d e && plain_exprs d es

-- an item of plain names, numbers and expressions within the limit
abbrev pub plain_item : Item → Bool
plain_item (wire h n) = plain_number h && is_name n
plain_item (reg h n) = plain_number h && is_name n
plain_item (mem h n last) = plain_number h && is_name n && plain_number last
plain_item (assign n e) = is_name n && plain_expr limit e
plain_item (clocked n k e) = is_name n && plain_const k && plain_expr limit e
plain_item (store c n i e) = plain_expr limit c && is_name n && plain_expr limit i && plain_expr limit e

-- a port of a plain name and number
abbrev pub plain_port : Port → Bool
plain_port p = plain_number p.high && is_name p.name

-- a join of two plain names
abbrev pub plain_join : Join → Bool
plain_join j = is_name j.port && is_name j.net

-- a leaf of a plain name, plain ports and plain items
abbrev pub plain_leaf : values.Leaf → Bool
plain_leaf l = is_name l.name && list_all plain_port l.ports && list_all plain_item l.items

-- a wire or an instance of the top, of plain names, numbers and joins
abbrev pub plain_top_item : TopItem → Bool
plain_top_item (Wire h n) = plain_number h && is_name n
plain_top_item (Instance l n joins) = is_name l && is_name n && list_all plain_join joins

-- a design of plain leaves, ports and items
abbrev pub plain_design : Design → Bool
plain_design d = list_all plain_leaf d.leaves && list_all plain_port d.top.ports && list_all plain_top_item d.top.items
