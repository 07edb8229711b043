-- The text in which a design is written: an item, a port and a join a line, two spaces in.
use Rattle.std.specs.Prelude.{ℕ, Bool, true, false, List, [], ◌∷◌, ◌++◌, codes, decimal}
use Rattle.vl_tree.specs.declared.tree.Const.{Const}
use Rattle.vl_tree.specs.declared.tree.Op.{Op}
use Rattle.vl_tree.specs.declared.tree.Op.TheVariants.{Add, Sub, And, Or, Xor, Equal, Less}
use Rattle.vl_tree.specs.declared.tree.Port.{Port}
use Rattle.vl_tree.specs.declared.tree.Join.{Join}
use Rattle.vl_tree.specs.declared.tree.Top.{Top}
use Rattle.vl_tree.specs.declared.tree.TopItem.{TopItem}
use Rattle.vl_tree.specs.declared.tree.TopItem.TheVariants.{Wire, Instance}
use Rattle.vl_tree.specs.Values as values
use Rattle.vl_tree.specs.Values.{Name, Expr, Exprs, net, number, bit, part, word, not, two, choose, cat, no_parts, parts, Item, wire, reg, mem, assign, clocked, store, Design}

-- the texts of these, one after another
abbrev pub each_text : {A : Type 0} → (A → List ℕ) → List A → List ℕ
each_text f [] = []
each_text f (x ∷ xs) = f x ++ each_text f xs

-- an operator between spaces
abbrev pub op_text : Op → List ℕ
op_text Add = codes " + "
op_text Sub = codes " - "
op_text And = codes " & "
op_text Or = codes " | "
op_text Xor = codes " ^ "
op_text Equal = codes " == "
op_text Less = codes " < "

-- a constant: its width, and its value in decimal
abbrev pub const_text : Const → List ℕ
const_text k = decimal k.width ++ (codes "'d" ++ decimal k.value)

-- an expression; a concatenation's parts behind the first one, with the brace that closes them
abbrev mutual
  pub expr_text : Expr → List ℕ
  expr_text (net n) = n
  expr_text (number k) = const_text k
  expr_text (bit n i) = n ++ (codes "[" ++ (decimal i ++ codes "]"))
  expr_text (part n h l) = n ++ (codes "[" ++ (decimal h ++ (codes ":" ++ (decimal l ++ codes "]"))))
  expr_text (word n e) = n ++ (codes "[" ++ (expr_text e ++ codes "]"))
  expr_text (not e) = codes "(~" ++ (expr_text e ++ codes ")")
  expr_text (two op a b) = codes "(" ++ (expr_text a ++ (op_text op ++ (expr_text b ++ codes ")")))
  expr_text (choose c a b) = codes "(" ++ (expr_text c
      ++ (codes " ? " ++ (expr_text a ++ (codes " : " ++ (expr_text b ++ codes ")")))))
  expr_text (cat no_parts) = codes "{}"
  expr_text (cat (parts e es)) = codes "{" ++ (expr_text e ++ more_text es)

  pub more_text : Exprs → List ℕ
  more_text no_parts = codes "}"
  more_text (parts e es) = codes ", " ++ (expr_text e ++ more_text es)

-- a range, and the name that it is for
abbrev pub ranged_text : ℕ → Name → List ℕ
ranged_text high n = codes "[" ++ (decimal high ++ (codes ":0] " ++ n))

-- an item of a leaf, on its own line
abbrev pub item_text : Item → List ℕ
item_text (wire h n) = codes "  wire " ++ (ranged_text h n ++ codes ";\n")
item_text (reg h n) = codes "  reg " ++ (ranged_text h n ++ codes ";\n")
item_text (mem h n last) = codes "  reg " ++ (ranged_text h n ++ (codes " [0:" ++ (decimal last ++ codes "];\n")))
item_text (assign n e) = codes "  assign " ++ (n ++ (codes " = " ++ (expr_text e ++ codes ";\n")))
item_text (clocked n r e) = codes "  always @(posedge clk) if (rst) "
    ++ (n ++ (codes " <= " ++ (const_text r
    ++ (codes "; else " ++ (n ++ (codes " <= " ++ (expr_text e ++ codes ";\n")))))))
item_text (store c n i e) = codes "  always @(posedge clk) if ("
    ++ (expr_text c ++ (codes ") " ++ (n ++ (codes "["
    ++ (expr_text i ++ (codes "] <= " ++ (expr_text e ++ codes ";\n")))))))

-- the comma that ends the line before, and the direction that begins a port's line
abbrev pub way_text : Bool → List ℕ
way_text true = codes ",\n  output wire "
way_text false = codes ",\n  input wire "

-- a port, on its own line
abbrev pub port_text : Port → List ℕ
port_text p = way_text p.output ++ ranged_text p.high p.name

-- what stands between a module's name and its items
abbrev pub head_text : List Port → List ℕ
head_text ports = codes " (\n  input wire clk,\n  input wire rst" ++ (each_text port_text ports ++ codes "\n);\n")

-- a leaf
abbrev pub leaf_text : values.Leaf → List ℕ
leaf_text l = codes "module " ++ (l.name ++ (head_text l.ports ++ (each_text item_text l.items ++ codes "endmodule\n")))

-- a join, on its own line, four spaces in
abbrev pub join_text : Join → List ℕ
join_text j = codes ",\n    ." ++ (j.port ++ (codes "(" ++ (j.net ++ codes ")")))

-- a wire of the top on its own line, or an instance with its joins
abbrev pub top_item_text : TopItem → List ℕ
top_item_text (Wire h n) = codes "  wire " ++ (ranged_text h n ++ codes ";\n")
top_item_text (Instance l n joins) = codes "  "
    ++ (l ++ (codes " " ++ (n ++ (codes " (\n    .clk(clk),\n    .rst(rst)"
    ++ (each_text join_text joins ++ codes "\n  );\n")))))

-- the top
abbrev pub top_text : Top → List ℕ
top_text t = codes "module noc" ++ (head_text t.ports ++ (each_text top_item_text t.items ++ codes "endmodule\n"))

-- all leaves, and then the top
abbrev pub design_text : Design → List ℕ
design_text d = each_text leaf_text d.leaves ++ top_text d.top
