-- The definitions on worked rows.
use Rattle.std.proofs.Common.{◌≡◌, List, [], ◌∷◌, refl, inr, lit<, lit≤}
use Rattle.std.specs.Prelude.{codes}
use Rattle.surf_base.specs.Outside.{Absent, Holds, Rose}
use Rattle.surf_base.specs.HeldIn.{held_in}
use Rattle.surf_base.specs.Numbers.{decimal_value, IsDecimal, hex_value, hex_word}
use Rattle.surf_base.specs.Script.{raised}
use Rattle.surf_base.specs.declared.mem_files.MemFile.{MemFile}

-- a word has 8 digits, with its zeros, in lower case
hex_word_row : hex_word 3735928495 ≡ codes "deadbeaf"
hex_word_row = refl

hex_word_zero : hex_word 0 ≡ codes "00000000"
hex_word_zero = refl

-- digits are read in either case
hex_value_row : hex_value (codes "DeadBeaf") ≡ 3735928495
hex_value_row = refl

-- zeros in front count as digits and change no value
decimal_value_row : decimal_value (codes "0000004096") ≡ 4096
decimal_value_row = refl

IsDecimal_row : IsDecimal 4096 (codes "4096")
IsDecimal_row = ((lit< tt, (lit< tt, (lit< tt, (lit< tt, (lit< tt, tt))))), lit≤ tt, lit≤ tt)

-- a count that stands at its end stays there, and rises all the same
raised_row : raised 18446744073709551615 ≡ 18446744073709551615
raised_row = refl

Rose_row : Rose 18446744073709551615 (raised 18446744073709551615)
Rose_row = inr (lit≤ tt)

-- the last file of a name counts, and other names are absent
two_files : List MemFile
two_files = record { name = codes "a"; content = 1 ∷ [] } ∷ record { name = codes "a"; content = 2 ∷ [] } ∷ []

held_in_row : held_in two_files (codes "a") ≡ Holds (2 ∷ [])
unfolding two_files
held_in_row = refl

held_in_absent : held_in two_files (codes "b") ≡ Absent
unfolding two_files
held_in_absent = refl
