-- The tokens of a design, an equation for each line of the grammar.
use Rattle.std.specs.Prelude.{ℕ, zero, suc, Bool, true, false, List, [], ◌∷◌, ◌++◌, map, codes}
use Rattle.std.specs.List.{AllByRecursion}
use Rattle.vl_tree.specs.declared.tree.Const.{Const}
use Rattle.vl_tree.specs.declared.tree.Op.{Op}
use Rattle.vl_tree.specs.declared.tree.Op.TheVariants.{Add, Sub, And, Or, Xor, Equal, Less}
use Rattle.vl_tree.specs.declared.tree.Port.{Port}
use Rattle.vl_tree.specs.declared.tree.Join.{Join}
use Rattle.vl_tree.specs.declared.tree.Top.{Top}
use Rattle.vl_tree.specs.declared.tree.TopItem.{TopItem}
use Rattle.vl_tree.specs.declared.tree.TopItem.TheVariants.{Wire, Instance}
use Rattle.vl_tree.specs.Tokens.{Token, mark, name, plain, sized, split}
use Rattle.vl_tree.specs.Values as values
use Rattle.vl_tree.specs.Values.{Name, Expr, Exprs, net, number, bit, part, word, not, two, choose, cat, no_parts, parts, Item, wire, reg, mem, assign, clocked, store, Design}

-- words and symbols, with single spaces between them
abbrev pub marks : List ℕ → List Token
marks text = map mark (split text)

-- one after another
abbrev pub each : {A : Type 0} → (A → List Token) → List A → List Token
each f [] = []
each f (x ∷ xs) = f x ++ each f xs

-- the symbol of an operator
abbrev pub op_mark : Op → Token
op_mark Add = mark (codes "+")
op_mark Sub = mark (codes "-")
op_mark And = mark (codes "&")
op_mark Or = mark (codes "|")
op_mark Xor = mark (codes "^")
op_mark Equal = mark (codes "==")
op_mark Less = mark (codes "<")

-- a constant, by its width and value
abbrev pub const_token : Const → Token
const_token k = sized k.width k.value

-- an expression; a concatenation's parts, from the first one on, with the brace that closes them
abbrev mutual
  pub expr_tokens : Expr → List Token
  expr_tokens (net n) = name n ∷ []
  expr_tokens (number k) = const_token k ∷ []
  expr_tokens (bit n i) = name n ∷ (marks (codes "[") ++ (plain i ∷ marks (codes "]")))
  expr_tokens (part n h l) = name n ∷ (marks (codes "[")
      ++ (plain h ∷ (marks (codes ":") ++ (plain l ∷ marks (codes "]")))))
  expr_tokens (word n e) = name n ∷ (marks (codes "[") ++ (expr_tokens e ++ marks (codes "]")))
  expr_tokens (not e) = marks (codes "( ~") ++ (expr_tokens e ++ marks (codes ")"))
  expr_tokens (two op a b) = marks (codes "(") ++ (expr_tokens a ++ (op_mark op ∷ (expr_tokens b ++ marks (codes ")"))))
  expr_tokens (choose c a b) = marks (codes "(")
      ++ (expr_tokens c ++ (marks (codes "?")
      ++ (expr_tokens a ++ (marks (codes ":") ++ (expr_tokens b ++ marks (codes ")"))))))
  expr_tokens (cat no_parts) = marks (codes "{ }")
  expr_tokens (cat (parts e es)) = marks (codes "{") ++ (expr_tokens e ++ more_tokens es)

  pub more_tokens : Exprs → List Token
  more_tokens no_parts = marks (codes "}")
  more_tokens (parts e es) = marks (codes ",") ++ (expr_tokens e ++ more_tokens es)

-- an expression of at most so many levels, in which each concatenation has a part
abbrev mutual
  pub Fits : ℕ → Expr → Type 0
  Fits zero e = ⊥
  Fits (suc d) (net n) = Unit {0}
  Fits (suc d) (number k) = Unit {0}
  Fits (suc d) (bit n i) = Unit {0}
  Fits (suc d) (part n h l) = Unit {0}
  Fits (suc d) (word n e) = Fits d e
  Fits (suc d) (not e) = Fits d e
  Fits (suc d) (two op a b) = Fits d a × Fits d b
  Fits (suc d) (choose c a b) = Fits d c × Fits d a × Fits d b
  Fits (suc d) (cat no_parts) = ⊥
  Fits (suc d) (cat (parts e es)) = Fits d e × AllFit d es

  pub AllFit : ℕ → Exprs → Type 0
  AllFit d no_parts = Unit {0}
  AllFit d (parts e es) = Fits d e × AllFit d es

-- the greatest depth of a whole expression
unfoldable pub limit : ℕ
limit = 200

-- the range from bit high down to bit 0
abbrev pub range_tokens : ℕ → List Token
range_tokens high = marks (codes "[") ++ (plain high ∷ (marks (codes ":") ++ (plain 0 ∷ marks (codes "]"))))

-- an item of a leaf
abbrev pub item_tokens : Item → List Token
item_tokens (wire h n) = marks (codes "wire") ++ (range_tokens h ++ (name n ∷ marks (codes ";")))
item_tokens (reg h n) = marks (codes "reg") ++ (range_tokens h ++ (name n ∷ marks (codes ";")))
item_tokens (mem h n last) = marks (codes "reg")
    ++ (range_tokens h ++ (name n ∷ (marks (codes "[")
    ++ (plain 0 ∷ (marks (codes ":") ++ (plain last ∷ marks (codes "] ;")))))))
item_tokens (assign n e) = marks (codes "assign")
    ++ (name n ∷ (marks (codes "=") ++ (expr_tokens e ++ marks (codes ";"))))
item_tokens (clocked n r e) = marks (codes "always @ ( posedge clk ) if (")
    ++ (marks (codes "rst )") ++ (name n ∷ (marks (codes "<=")
    ++ (const_token r ∷ (marks (codes "; else")
    ++ (name n ∷ (marks (codes "<=") ++ (expr_tokens e ++ marks (codes ";")))))))))
item_tokens (store c n i e) = marks (codes "always @ ( posedge clk ) if (")
    ++ (expr_tokens c ++ (marks (codes ")")
    ++ (name n ∷ (marks (codes "[") ++ (expr_tokens i
    ++ (marks (codes "] <=") ++ (expr_tokens e ++ marks (codes ";"))))))))

-- each whole expression of the item is within the limit
abbrev pub ItemFits : Item → Type 0
ItemFits (wire h n) = Unit {0}
ItemFits (reg h n) = Unit {0}
ItemFits (mem h n last) = Unit {0}
ItemFits (assign n e) = Fits limit e
ItemFits (clocked n r e) = Fits limit e
ItemFits (store c n i e) = Fits limit c × Fits limit i × Fits limit e

-- the word for a port's direction
abbrev pub way_mark : Bool → Token
way_mark true = mark (codes "output")
way_mark false = mark (codes "input")

-- a port with the comma before it
abbrev pub port_tokens : Port → List Token
port_tokens p = marks (codes ",") ++ (way_mark p.output
    ∷ (marks (codes "wire") ++ (range_tokens p.high ++ (name p.name ∷ []))))

-- what stands between a module's name and its items
abbrev pub head_tokens : List Port → List Token
head_tokens ports = marks (codes "( input wire clk , input wire rst") ++ (each port_tokens ports ++ marks (codes ") ;"))

-- a leaf, from its word module on
abbrev pub leaf_tokens : values.Leaf → List Token
leaf_tokens l = marks (codes "module") ++ (name l.name
    ∷ (head_tokens l.ports ++ (each item_tokens l.items ++ marks (codes "endmodule"))))

-- a join with the comma before it
abbrev pub join_tokens : Join → List Token
join_tokens j = marks (codes ", .") ++ (name j.port ∷ (marks (codes "(") ++ (name j.net ∷ marks (codes ")"))))

-- a wire of the top, or an instance, whose joins of clk and rst come first
abbrev pub top_item_tokens : TopItem → List Token
top_item_tokens (Wire h n) = marks (codes "wire") ++ (range_tokens h ++ (name n ∷ marks (codes ";")))
top_item_tokens (Instance l n joins) = name l
    ∷ (name n ∷ (marks (codes "( . clk ( clk ) , . rst ( rst )") ++ (each join_tokens joins ++ marks (codes ") ;"))))

-- the top, a module of the name noc
abbrev pub top_tokens : Top → List Token
top_tokens t = marks (codes "module noc") ++ (head_tokens t.ports
    ++ (each top_item_tokens t.items ++ marks (codes "endmodule")))

-- all leaves, and then the top
abbrev pub design_tokens : Design → List Token
design_tokens d = each leaf_tokens d.leaves ++ top_tokens d.top

-- each whole expression of the leaf is within the limit
abbrev pub LeafFits : values.Leaf → Type 0
LeafFits l = AllByRecursion ItemFits l.items

-- each whole expression is within the limit
abbrev pub DesignFits : Design → Type 0
DesignFits d = AllByRecursion LeafFits d.leaves
