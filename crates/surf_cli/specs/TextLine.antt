-- The line that is printed for a fault of a text.
use Rattle.std.specs.Prelude.{ℕ, List, [], ◌∷◌, ◌++◌, codes, Option, Some, None}
use Rattle.surf_base.specs.Numbers.{labelled}
use Rattle.vl_tree.specs.declared.fault.TextFault.{TextFault}
use Rattle.vl_tree.specs.declared.fault.TextFault.TheVariants.{Byte, Token, Grammar, NameTwice, NameUnknown, Width, Order, Driver, Mealy, MemSize, Instance, Ports, Memory}

-- a fault of a text by its number, and its offset, item or position; that memory ran out has neither
abbrev pub place_of : TextFault → Option (ℕ × ℕ)
place_of (Byte i) = Some (1, i)
place_of (Token i) = Some (2, i)
place_of (Grammar i) = Some (3, i)
place_of (NameTwice i) = Some (4, i)
place_of (NameUnknown i) = Some (5, i)
place_of (Width i) = Some (6, i)
place_of (Order i) = Some (7, i)
place_of (Driver i) = Some (8, i)
place_of (Mealy i) = Some (9, i)
place_of (MemSize i) = Some (10, i)
place_of (Instance i) = Some (11, i)
place_of (Ports i) = Some (12, i)
place_of (Memory refused) = None

-- the line of a fault's number and place, and that of memory that ran out
abbrev pub printed : Option (ℕ × ℕ) → List ℕ
printed None = codes "surf: no memory\n"
printed (Some x) = labelled (codes "surf: text fault ") x.0 ++ labelled (codes " at ") x.1 ++ 10 ∷ []

-- the line of a fault, with its LF
abbrev pub line_of : TextFault → List ℕ
line_of fault = printed (place_of fault)
