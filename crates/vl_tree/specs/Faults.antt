-- What a fault of a text says of its bytes.
use Rattle.std.specs.Prelude.{ℕ, List}
use Rattle.vl_tree.specs.Spells.{ByteFault, TokenFault, GrammarFault}
use Rattle.vl_tree.specs.declared.fault.TextFault.{TextFault}
use Rattle.vl_tree.specs.declared.fault.TextFault.TheVariants.{Byte, Token, Grammar, Memory}

-- memory ran out, which says nothing of the bytes
abbrev pub IsMemory : TextFault → Type 0
IsMemory (Memory e) = Unit {0}
IsMemory _ = ⊥

-- memory ran out, or this holds
abbrev pub MemoryOr : TextFault → Type 0 → Type 0
MemoryOr (Memory e) P = Unit {0}
MemoryOr _ P = P

-- the first fault of the bytes, of those that reading finds
abbrev pub IsReadFault : List ℕ → TextFault → Type 0
IsReadFault bytes (Byte n) = ByteFault bytes n
IsReadFault bytes (Token n) = TokenFault bytes n
IsReadFault bytes (Grammar n) = GrammarFault bytes n
IsReadFault bytes _ = ⊥
