-- The draft that a description's bytes give, and their first fault.
use Rattle.std.specs.Prelude.{ℕ, if◌then◌else◌, List, Option, Some, None, option_map}
use Rattle.std.specs.Str.{is_utf8}
use Rattle.toml.specs.Data.{Members}
use Rattle.toml.specs.Parse.{parse_document}
use Rattle.noc_desc.specs.declared.Draft.{Draft}
use Rattle.noc_desc.specs.declared.DescFault.{DescFault}
use Rattle.noc_desc.specs.declared.DescFault.TheVariants.{NotToml, Memory}
use Rattle.noc_desc.specs.Values.{draft_at}
use Rattle.noc_desc.specs.Faults.{table_fault}

-- the table that the bytes are: they are UTF-8, and a TOML document
unfoldable pub table_of : List ℕ → Option Members
table_of bytes = if is_utf8 bytes then parse_document bytes else None

-- the first fault of a table, or of bytes that are none
abbrev pub fault_of : Option Members → Option DescFault
fault_of None = Some NotToml
fault_of (Some members) = table_fault members

-- the bytes' first fault
abbrev pub first_fault : List ℕ → Option DescFault
first_fault bytes = fault_of (table_of bytes)

-- the draft of the bytes' table, whether or not it has faults
abbrev pub draft_of : List ℕ → Option Draft
draft_of bytes = option_map draft_at (table_of bytes)

-- memory ran out, which says nothing of the bytes
abbrev pub IsMemory : DescFault → Type 0
IsMemory (Memory e) = Unit {0}
IsMemory _ = ⊥
