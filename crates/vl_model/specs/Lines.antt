-- The lines of a design: what has a number. And the names that they declare.
use Rattle.std.specs.Prelude.{ℕ, ◌+◌, Bool, true, false, List, [], ◌∷◌, ◌++◌, map, Option, Some, None, if◌then◌else◌, bytes_eq, codes, find}
use Rattle.vl_tree.specs.declared.tree.Port.{Port}
use Rattle.vl_tree.specs.declared.tree.Top.{Top}
use Rattle.vl_tree.specs.declared.tree.TopItem.{TopItem}
use Rattle.vl_tree.specs.declared.tree.TopItem.TheVariants.{Wire, Instance}
use Rattle.vl_model.specs.declared.kind.Kind.{Kind}
use Rattle.vl_model.specs.declared.kind.Kind.TheVariants.{Input, Output, Inner, Register, Memory, Child}
use Rattle.vl_tree.specs.Values.{Name, Item, wire, reg, mem, assign, clocked, store, Leaf, Design}
use Rattle.vl_model.specs.Meaning.{Widths}

-- a module's heading, a port, an item of a leaf, and one of the top
pub data Line : Type 0 where
  heading : Name → Line
  port : Port → Line
  item : Item → Line
  joint : TopItem → Line

-- the lines of a leaf: its heading, its ports and its items
abbrev pub leaf_lines : Leaf → List Line
leaf_lines l = heading l.name ∷ (map port l.ports ++ map item l.items)

-- the lines of the top: its heading, its ports and its items
abbrev pub top_lines : Top → List Line
top_lines t = heading (codes "noc") ∷ (map port t.ports ++ map joint t.items)

-- a line, with what stands around it: the leaves before its module, all lines of its module, and those of them before
-- it
pub record Site : Type 0 where
  pub leaves : List Leaf
  pub lines : List Line
  pub before : List Line
  pub line : Line

-- lines with what stands around them, where others stand before them in the module
abbrev pub sites_behind : List Leaf → List Line → List Line → List Line → List Site
sites_behind leaves lines before [] = []
sites_behind leaves lines before (x ∷ xs) =
    record { leaves = leaves; lines = lines; before = before; line = x }
    ∷ sites_behind leaves lines (before ++ x ∷ []) xs

-- the lines of a module with what stands around them
abbrev pub module_sites : List Leaf → List Line → List Site
module_sites leaves lines = sites_behind leaves lines [] lines

-- those of the leaves from here on, where these stand before them
abbrev pub leaf_sites : List Leaf → List Leaf → List Site
leaf_sites before [] = []
leaf_sites before (l ∷ ls) = module_sites before (leaf_lines l) ++ leaf_sites (before ++ l ∷ []) ls

-- all lines of a design: the number of a line is its place in this list
abbrev pub sites : Design → List Site
sites d = leaf_sites [] d.leaves ++ module_sites d.leaves (top_lines d.top)

-- ---- declared names

-- a name, and what it is declared as. last is the number of a memory's last word
pub record Declared : Type 0 where
  pub name : Name
  pub kind : Kind
  pub high : ℕ
  pub last : ℕ

-- the way in which a port is declared
abbrev pub way_of : Bool → Kind
way_of true = Output
way_of false = Input

-- what a line declares in its module. A heading declares a module
abbrev pub declared : Line → Option Declared
declared (heading n) = None
declared (port p) = Some (record { name = p.name; kind = way_of p.output; high = p.high; last = 0 })
declared (item (wire h n)) = Some (record { name = n; kind = Inner; high = h; last = 0 })
declared (item (reg h n)) = Some (record { name = n; kind = Register; high = h; last = 0 })
declared (item (mem h n last)) = Some (record { name = n; kind = Memory; high = h; last = last })
declared (item (assign n e)) = None
declared (item (clocked n k e)) = None
declared (item (store c n i e)) = None
declared (joint (Wire h n)) = Some (record { name = n; kind = Inner; high = h; last = 0 })
declared (joint (Instance l n joins)) = Some (record { name = n; kind = Child; high = 0; last = 0 })

-- what is declared, if it has the name, and else what is found later
abbrev pub found : Option Declared → Name → Option Declared → Option Declared
found None n later = later
found (Some x) n later = if bytes_eq n x.name then Some x else later

-- the first of these lines that declares the name
abbrev pub lookup : List Line → Name → Option Declared
lookup [] n = None
lookup (x ∷ xs) n = found (declared x) n (lookup xs n)

-- whether the name is declared, in a way that passes
abbrev pub kind_passes : (Kind → Bool) → Option Declared → Bool
kind_passes test None = false
kind_passes test (Some x) = test x.kind

-- whether it has a number in each cycle: a port, a wire or a register
abbrev pub is_net : Kind → Bool
is_net Memory = false
is_net Child = false
is_net _ = true

-- whether it is a memory
abbrev pub is_memory : Kind → Bool
is_memory Memory = true
is_memory _ = false

-- whether it is a register
abbrev pub is_register : Kind → Bool
is_register Register = true
is_register _ = false

-- whether it is an input port
abbrev pub is_input : Kind → Bool
is_input Input = true
is_input _ = false

-- whether it is an output port
abbrev pub is_output : Kind → Bool
is_output Output = true
is_output _ = false

-- what an assign or a join may drive: a wire or an output port
abbrev pub is_driven : Kind → Bool
is_driven Output = true
is_driven Inner = true
is_driven _ = false

-- the bits of a net; 0 where no net is declared
abbrev pub net_bits : Option Declared → ℕ
net_bits None = 0
net_bits (Some x) = if is_net x.kind then x.high + 1 else 0

-- the bits of a memory's word; 0 where no memory is declared
abbrev pub word_bits : Option Declared → ℕ
word_bits None = 0
word_bits (Some x) = if is_memory x.kind then x.high + 1 else 0

-- the widths of what a module declares
abbrev pub widths : List Line → Widths
widths lines = record { net = λ n. net_bits (lookup lines n); word = λ n. word_bits (lookup lines n) }

-- how many words a memory has
abbrev pub word_count : Option Declared → ℕ
word_count None = 0
word_count (Some x) = x.last + 1

-- the leaf of a name
abbrev pub leaf_named : List Leaf → Name → Option Leaf
leaf_named leaves n = find (λ (l : Leaf). bytes_eq n l.name) leaves

-- the port of a name
abbrev pub port_named : List Port → Name → Option Port
port_named ports n = find (λ (p : Port). bytes_eq n p.name) ports
