-- The rules of a sound design, and the first line that breaks one.
use Rattle.std.specs.Prelude.{◌≡◌, ℕ, ◌+◌, ◌^◌, ◌==◌, ◌≤◌, nat_lt, Bool, true, false, not, ◌&&◌, List, [], ◌∷◌, ◌++◌, Option, Some, None, is_some, option_map, if◌then◌else◌, bytes_eq, count_by}
use Rattle.std.specs.List.{list_any, list_all, position_from}
use Rattle.vl_tree.specs.declared.tree.Port.{Port}
use Rattle.vl_tree.specs.declared.tree.Join.{Join}
use Rattle.vl_tree.specs.declared.tree.TopItem.TheVariants.{Wire, Instance}
use Rattle.vl_tree.specs.declared.fault.TextFault.{TextFault}
use Rattle.vl_tree.specs.declared.fault.TextFault.TheVariants.{NameTwice, NameUnknown, Width, Order, Driver, Mealy, MemSize, Instance as WrongJoins}
use Rattle.vl_tree.specs.Values.{Name, Expr, wire, reg, mem, assign, clocked, store, Leaf, Design}
use Rattle.vl_tree.specs.Plain.{plain_leaf}
use Rattle.vl_tree.specs.Spells.{IsPlain}
use Rattle.vl_model.specs.Meaning.{Widths, Use, width_of, agrees, nets_of, uses_of, one_if}
use Rattle.vl_model.specs.declared.kind.Kind.{Kind}
use Rattle.vl_model.specs.declared.kind.Kind.TheVariants.{Input, Child}
use Rattle.vl_model.specs.Lines.{Line, heading, port, item, joint, leaf_lines, Site, module_sites, sites, Declared, declared, lookup, kind_passes, is_net, is_memory, is_register, is_driven, widths, word_count, leaf_named, port_named}

-- ---- a name is declared once in its scope

-- whether what a line declares was declared by one of these lines
abbrev pub is_again : List Line → Option Declared → Bool
is_again before None = false
is_again before (Some x) = is_some (lookup before x.name)

-- whether a line gives a name that was given before: a module's among the leaves, any other in its module
abbrev pub repeats : List Leaf → List Line → Line → Bool
repeats leaves before (heading n) = is_some (leaf_named leaves n)
repeats leaves before (port p) = is_again before (declared (port p))
repeats leaves before (item x) = is_again before (declared (item x))
repeats leaves before (joint x) = is_again before (declared (joint x))

-- the line breaks the rule on names that are given once
unfoldable pub name_twice : Site → Bool
name_twice p = repeats p.leaves p.before p.line

-- ---- a name is declared in the right way before it is used

-- whether the name is declared in a way that passes
abbrev pub is_kind : (Kind → Bool) → List Line → Name → Bool
is_kind test lines n = kind_passes test (lookup lines n)

-- each net and each memory that the expression reads is declared as one
abbrev pub knows : List Line → Expr → Bool
knows lines e = list_all (is_kind is_net lines) (nets_of e)
    && list_all (λ (u : Use). is_kind is_memory lines u.memory) (uses_of e)

-- an output port is joined to what may be driven, and an input port to any net
abbrev pub joins_known : List Line → Name → Option Port → Bool
joins_known lines n None = false
joins_known lines n (Some p) = is_kind (if p.output then is_driven else is_net) lines n

-- the leaf of the instance is declared, and each of its joins names a port of it and a net
abbrev pub instance_known : List Line → List Join → Option Leaf → Bool
instance_known lines joins None = false
instance_known lines joins (Some l) = list_all (λ (j : Join). joins_known lines j.net (port_named l.ports j.port)) joins

-- each name that the line uses is declared before it, in the way that it is used
abbrev pub line_known : List Leaf → List Line → Line → Bool
line_known leaves before (heading n) = true
line_known leaves before (port p) = true
line_known leaves before (item (wire h n)) = true
line_known leaves before (item (reg h n)) = true
line_known leaves before (item (mem h n last)) = true
line_known leaves before (item (assign n e)) = is_kind is_driven before n && knows before e
line_known leaves before (item (clocked n k e)) = is_kind is_register before n && knows before e
line_known leaves before (item (store c n i e)) =
    is_kind is_memory before n && (knows before c && (knows before i && knows before e))
line_known leaves before (joint (Wire h n)) = true
line_known leaves before (joint (Instance l n joins)) = instance_known before joins (leaf_named leaves l)

-- the line breaks the rule on names that are declared before their use
unfoldable pub name_unknown : Site → Bool
name_unknown p = not (line_known p.leaves p.before p.line)

-- ---- widths are 1 to 64 and agree

-- the net that is joined is as wide as the port
abbrev pub join_fits : Widths → Name → Option Port → Bool
join_fits w n None = true
join_fits w n (Some p) = p.high + 1 == w.net n

-- each join of the instance ties a port and a net of one width
abbrev pub instance_fits : Widths → List Join → Option Leaf → Bool
instance_fits w joins None = true
instance_fits w joins (Some l) = list_all (λ (j : Join). join_fits w j.net (port_named l.ports j.port)) joins

-- the widths of the line are at most 64 and agree
abbrev pub line_fits : List Leaf → Widths → Line → Bool
line_fits leaves w (heading n) = true
line_fits leaves w (port p) = nat_lt p.high 64
line_fits leaves w (item (wire h n)) = nat_lt h 64
line_fits leaves w (item (reg h n)) = nat_lt h 64
line_fits leaves w (item (mem h n last)) = nat_lt h 64
line_fits leaves w (item (assign n e)) = agrees w e && (width_of w e == w.net n)
line_fits leaves w (item (clocked n k e)) = agrees w e && ((width_of w e == w.net n) && (k.width == w.net n))
line_fits leaves w (item (store c n i e)) = agrees w c
    && ((width_of w c == 1) && (agrees w i && (agrees w e && (width_of w e == w.word n))))
line_fits leaves w (joint (Wire h n)) = nat_lt h 64
line_fits leaves w (joint (Instance l n joins)) = instance_fits w joins (leaf_named leaves l)

-- the line breaks the rule on widths
unfoldable pub wrong_width : Site → Bool
wrong_width p = not (line_fits p.leaves (widths p.before) p.line)

-- ---- an assign reads what is assigned before it

-- whether the line assigns the name
abbrev pub assigns : Name → Line → Bool
assigns n (item (assign m e)) = bytes_eq n m
assigns n _ = false

-- a wire or an output port that none of these lines assigns
abbrev pub is_early : List Line → Name → Bool
is_early before n = is_kind is_driven before n && not (list_any (assigns n) before)

-- whether the line assigns what reads a name that is assigned later
abbrev pub reads_early : List Line → Line → Bool
reads_early before (item (assign n e)) = list_any (is_early before) (nets_of e)
reads_early before _ = false

-- the line breaks the rule on the order of assigns
unfoldable pub wrong_order : Site → Bool
wrong_order p = reads_early p.before p.line

-- ---- each wire, output port, register and memory is driven once

-- whether there is a port, and it is an output
abbrev pub is_output_port : Option Port → Bool
is_output_port None = false
is_output_port (Some p) = p.output

-- whether the join ties the net to an output port of the leaf
abbrev pub join_drives : Leaf → Name → Join → Bool
join_drives l n j = bytes_eq n j.net && is_output_port (port_named l.ports j.port)

-- how many joins of the instance tie the net to an output port
abbrev pub instance_drives : Name → List Join → Option Leaf → ℕ
instance_drives n joins None = 0
instance_drives n joins (Some l) = count_by (join_drives l n) joins

-- how many drivers of the name a line has
abbrev pub drives : List Leaf → Name → Line → ℕ
drives leaves n (item (assign m e)) = one_if (bytes_eq n m)
drives leaves n (item (clocked m k e)) = one_if (bytes_eq n m)
drives leaves n (item (store c m i e)) = one_if (bytes_eq n m)
drives leaves n (joint (Instance l i joins)) = instance_drives n joins (leaf_named leaves l)
drives leaves n _ = 0

-- how many it has in the module
abbrev pub drivers : List Leaf → List Line → Name → ℕ
drivers leaves [] n = 0
drivers leaves (x ∷ xs) n = drives leaves n x + drivers leaves xs n

-- whether what is declared in this way is driven from within its module
abbrev pub wants_driver : Kind → Bool
wants_driver Input = false
wants_driver Child = false
wants_driver _ = true

-- whether what a line declares wants a driver and has none, or several
abbrev pub lacks_driver : List Leaf → List Line → Option Declared → Bool
lacks_driver leaves lines None = false
lacks_driver leaves lines (Some x) = wants_driver x.kind && not (drivers leaves lines x.name == 1)

-- the line breaks the rule on drivers
unfoldable pub wrong_driver : Site → Bool
wrong_driver p = lacks_driver p.leaves p.lines (declared p.line)

-- ---- an output port of a leaf depends on registers and memories alone

-- the names, with those that the line adds to them: an input port, and the target of an assign that reads one of them
abbrev pub depending : List Name → Line → List Name
depending ns (port p) = if p.output then ns else p.name ∷ ns
depending ns (item (assign n e)) = if list_any (λ m. list_any (bytes_eq m) ns) (nets_of e) then n ∷ ns else ns
depending ns _ = ns

-- those that depend on an input port of the module, by its assigns in order
abbrev pub all_depending : List Name → List Line → List Name
all_depending ns [] = ns
all_depending ns (x ∷ xs) = all_depending (depending ns x) xs

-- whether the line declares an output port that depends on an input port by assigns
abbrev pub is_through : List Line → Line → Bool
is_through lines (port p) = p.output && list_any (bytes_eq p.name) (all_depending [] lines)
is_through lines _ = false

-- the line breaks the rule on outputs
unfoldable pub goes_through : Site → Bool
goes_through p = is_through p.lines p.line

-- ---- a memory has 2 to 1,024 words, a power of two, and an index exactly the bits for it

-- whether a memory may have so many words
abbrev pub is_size : ℕ → Bool
is_size n = list_any (λ k. 2 ^ k == n) (1 ∷ 2 ∷ 3 ∷ 4 ∷ 5 ∷ 6 ∷ 7 ∷ 8 ∷ 9 ∷ 10 ∷ [])

-- the index of the use has exactly the bits for the memory's words
abbrev pub use_fits : List Line → Use → Bool
use_fits before u = 2 ^ width_of (widths before) u.index == word_count (lookup before u.memory)

-- the memories that a line reads and writes
abbrev pub line_uses : Line → List Use
line_uses (item (assign n e)) = uses_of e
line_uses (item (clocked n k e)) = uses_of e
line_uses (item (store c n i e)) = record { memory = n; index = i } ∷ (uses_of c ++ (uses_of i ++ uses_of e))
line_uses _ = []

-- the memory that the line declares, or those that it uses, have a size and an index of the right width
abbrev pub has_size : List Line → Line → Bool
has_size before (item (mem h n last)) = is_size (last + 1)
has_size before x = list_all (use_fits before) (line_uses x)

-- the line breaks the rule on memories
unfoldable pub wrong_size : Site → Bool
wrong_size p = not (has_size p.before p.line)

-- ---- an instance joins each port of its leaf once

-- the joins have each port of the leaf once
abbrev pub joins_each : List Join → Option Leaf → Bool
joins_each joins None = true
joins_each joins (Some l) = list_all (λ (p : Port). count_by (λ (j : Join). bytes_eq p.name j.port) joins == 1) l.ports

-- the instance of the line joins each port of its leaf once
abbrev pub line_joins : List Leaf → Line → Bool
line_joins leaves (joint (Instance l n joins)) = joins_each joins (leaf_named leaves l)
line_joins leaves _ = true

-- the line breaks the rule on joins
unfoldable pub wrong_joins : Site → Bool
wrong_joins p = not (line_joins p.leaves p.line)

-- ---- the first fault

-- a rule: the fault at a line, and whether a line breaks it
abbrev pub Rule : Type 0
Rule = (ℕ → TextFault) × (Site → Bool)

-- each fault, and the lines at which it is one
abbrev pub rules : List Rule
rules =
    (NameTwice, name_twice) ∷ (NameUnknown, name_unknown) ∷ (Width, wrong_width) ∷ (Order, wrong_order)
    ∷ (Driver, wrong_driver) ∷ (Mealy, goes_through) ∷ (MemSize, wrong_size) ∷ (WrongJoins, wrong_joins) ∷ []

-- the first of two faults
abbrev pub or_later : Option TextFault → Option TextFault → Option TextFault
or_later None later = later
or_later (Some fault) later = Some fault

-- the first rule that is broken, at the first line that breaks it
abbrev pub first_fault_of : List Rule → List Site → Option TextFault
first_fault_of [] ps = None
first_fault_of (r ∷ rs) ps = or_later (option_map r.0 (position_from r.1 0 ps)) (first_fault_of rs ps)

-- the first fault of a design, if it has one
unfoldable pub first_fault : Design → Option TextFault
first_fault d = first_fault_of rules (sites d)

-- some bytes spell the design, and it breaks no rule
pub record IsSound (d : Design) : Type 0 where
  pub plain : IsPlain d
  pub rules : first_fault d ≡ None

-- ---- a leaf by itself, and one that is not finished

-- the names of other leaves play no part
pub record IsSoundLeaf (l : Leaf) : Type 0 where
  pub plain : plain_leaf l ≡ true
  pub rules : first_fault_of rules (module_sites [] (leaf_lines l)) ≡ None

-- all but that each declared name has a driver
abbrev pub early_rules : List Rule
early_rules = (NameTwice, name_twice) ∷ (NameUnknown, name_unknown) ∷ (Width, wrong_width) ∷ (Order, wrong_order)
    ∷ (Mealy, goes_through) ∷ (MemSize, wrong_size) ∷ []

-- a leaf so far: what it declares may be undriven, but nothing is driven twice
pub record IsTidy (l : Leaf) : Type 0 where
  pub plain : plain_leaf l ≡ true
  pub rules : first_fault_of early_rules (module_sites [] (leaf_lines l)) ≡ None
  pub once : (n : Name) → drivers [] (leaf_lines l) n ≤ 1
