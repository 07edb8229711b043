-- A design as plain data, which two designs of the code share where they are equal.
use Rattle.std.specs.Prelude.{ℕ, List}
use Rattle.vl_tree.specs.declared.tree.Const.{Const}
use Rattle.vl_tree.specs.declared.tree.Op.{Op}
use Rattle.vl_tree.specs.declared.tree.Port.{Port}
use Rattle.vl_tree.specs.declared.tree.Top.{Top}

-- a name, as its bytes
abbrev pub Name : Type 0
Name = List ℕ

-- an expression: a net, a constant, a bit of a net, the bits of a net from h down to l, a word of a memory, a
-- complement, an operator over two operands, a choice by a condition, a concatenation; then a concatenation's parts,
-- the most significant first
mutual
  pub data Expr : Type 0 where
    net : Name → Expr
    number : Const → Expr
    bit : Name → ℕ → Expr
    part : Name → ℕ → ℕ → Expr
    word : Name → Expr → Expr
    not : Expr → Expr
    two : Op → Expr → Expr → Expr
    choose : Expr → Expr → Expr → Expr
    cat : Exprs → Expr

  pub data Exprs : Type 0 where
    no_parts : Exprs
    parts : Expr → Exprs → Exprs

-- an item of a leaf: the declaration of a wire, a register or a memory, with the number of the most significant bit
-- and, for a memory, of the last word; an assign; the move of a register, with its reset constant; a store, with its
-- enable, the memory, the index and the word
pub data Item : Type 0 where
  wire : ℕ → Name → Item
  reg : ℕ → Name → Item
  mem : ℕ → Name → ℕ → Item
  assign : Name → Expr → Item
  clocked : Name → Const → Expr → Item
  store : Expr → Name → Expr → Expr → Item

-- a module that holds no instances
pub record Leaf : Type 0 where
  pub name : Name
  pub ports : List Port
  pub items : List Item

-- the leaves in the order of the text, and the top, which joins instances of them
pub record Design : Type 0 where
  pub leaves : List Leaf
  pub top : Top
