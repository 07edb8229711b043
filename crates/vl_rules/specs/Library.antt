-- Leaves by name, and what each declares.
use Rattle.std.specs.Prelude.{◌≡◌, ℕ, List, length, Option, Some, None, slice_get, bytes_eq, true, false}
use Rattle.std.specs.List.{position_from}
use Rattle.vl_tree.specs.declared.tree.Leaf as code
use Rattle.vl_tree.specs.declared.tree.Port.{Port}
use Rattle.vl_tree.specs.Values.{Name, Leaf}
use Rattle.vl_tree.specs.Read.{read_leaf, read_leaves}
use Rattle.vl_model.specs.declared.kind.Kind.{Kind}
use Rattle.vl_model.specs.declared.kind.Kind.TheVariants.{Input, Output}
use Rattle.vl_model.specs.Lines.{leaf_lines}
use Rattle.vl_rules.specs.declared.names.Names.{Names}
use Rattle.vl_rules.specs.declared.scope.Entry.{Entry}
use Rattle.vl_rules.specs.declared.library.Library.{Library}
use Rattle.vl_rules.specs.declared.library.Shape.{Shape}
use Rattle.vl_rules.specs.Names.{found}
use Rattle.vl_rules.specs.Scope.{Declares}

-- the number of the first leaf of this name
abbrev pub first_leaf : List Leaf → Name → Option ℕ
first_leaf ls n = position_from (λ l. bytes_eq n l.name) 0 ls

-- the tables say what each leaf declares
pub record AreDeclared (ls : List code.Leaf) (ts : List (Names Entry)) : Type 0 where
  pub long : length ts ≡ length ls
  pub each : (i : ℕ) (l : code.Leaf) (t : Names Entry) → slice_get ls i ≡ Some l → slice_get ts i ≡ Some t
      → Declares t (leaf_lines (read_leaf l))

-- a library says where the first leaf of each name stands, and what each leaf declares
pub record IsLibrary (b : Library) : Type 0 where
  pub numbers : (n : Name) → found b.numbers n ≡ first_leaf (read_leaves b.leaves.now) n
  pub declared : AreDeclared b.leaves.now b.declared.items

-- a port without its name
abbrev pub shape_of : Port → Shape
shape_of p = record { output = p.output; high = p.high }

-- the shape of what is declared as a port
abbrev pub kind_shape : Kind → ℕ → Option Shape
kind_shape Input h = Some (record { output = false; high = h })
kind_shape Output h = Some (record { output = true; high = h })
kind_shape _ h = None
