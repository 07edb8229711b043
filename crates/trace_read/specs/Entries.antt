-- The entry that a line's fields write for a plan.
use Rattle.std.specs.Prelude.{ℕ, Bool, true, ◌==◌, if◌then◌else◌, List, [], ◌∷◌, map, drop, filter_map, codes, Option, Some, None, unwrap_or, slice_index, slice_index_or}
use Rattle.std.specs.Str.{bytes_eq}
use Rattle.surf_base.specs.Numbers.{decimal_in, hex_in}
use Rattle.noc_model.specs.Plan.{Plan, attach_of, domain_named}
use Rattle.trace_read.specs.declared.entries.Entry.{Entry}
use Rattle.trace_read.specs.declared.entries.Entry.TheVariants.{Send, Hold}
use Rattle.trace_read.specs.Text.{fields}

-- field i of these, from 0
abbrev pub field : List (List ℕ) → ℕ → List ℕ
field fs i = slice_index_or fs i []

-- no field, or a comment
abbrev pub is_skipped : List (List ℕ) → Bool
is_skipped [] = true
is_skipped (f ∷ fs) = slice_index f 0 == 35

-- the fourth field says what the line asks for
abbrev pub is_send : List (List ℕ) → Bool
is_send fs = bytes_eq (field fs 3) (codes "send")

-- the line says that its attachment is deaf for a while
abbrev pub is_hold : List (List ℕ) → Bool
is_hold fs = bytes_eq (field fs 3) (codes "hold")

-- a cycle, a tile or a count
abbrev pub number : List ℕ → Option ℕ
number f = decimal_in 4294967295 f

-- the number, and 0 where there is none
abbrev pub number_of : List ℕ → ℕ
number_of f = unwrap_or (number f) 0

-- an address or a word
abbrev pub word_of : List ℕ → ℕ
word_of f = unwrap_or (hex_in f) 0

-- the attachment of the tile and the domain of this name
abbrev pub attach_named : Plan → ℕ → List ℕ → ℕ
attach_named p tile name = unwrap_or (attach_of p tile (unwrap_or (domain_named p name) 0)) 0

-- the entry of a line that has no fault
abbrev pub entry_of : Plan → List (List ℕ) → Entry
entry_of p fs =
    if is_send fs
    then Send (number_of (field fs 0)) (attach_named p (number_of (field fs 1)) (field fs 2)) (word_of (field fs 4))
    (map word_of (drop 5 fs))
    else Hold (number_of (field fs 0)) (attach_named p (number_of (field fs 1)) (field fs 2)) (number_of (field fs 4))

-- the entry of a line, which a skipped line doesn't have
abbrev pub line_entry : Plan → List ℕ → Option Entry
line_entry p line = if is_skipped (fields line) then None else Some (entry_of p (fields line))

-- the entries of the lines, in order
abbrev pub entries : Plan → List (List ℕ) → List Entry
entries p lines = filter_map (line_entry p) lines
