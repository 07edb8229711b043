-- The faults of a line for a plan, in order.
use Rattle.std.specs.Prelude.{ℕ, Bool, not, ◌&&◌, ◌||◌, ◌==◌, nat_le, nat_lt, if◌then◌else◌, List, [], ◌∷◌, length, drop, Option, Some, None, is_none, unwrap_or}
use Rattle.std.specs.List.{list_any, list_all}
use Rattle.surf_base.specs.Numbers.{hex_in}
use Rattle.noc_model.specs.Plan.{Plan, tiles, hosts, domain_named}
use Rattle.trace_read.specs.declared.fault.TraceFault.{TraceFault}
use Rattle.trace_read.specs.declared.fault.TraceFault.TheVariants.{Syntax, Number, TileRange, DomainUnknown, NotHosted, WordCount}
use Rattle.trace_read.specs.Text.{is_plain, fields}
use Rattle.trace_read.specs.Entries.{field, is_skipped, is_send, is_hold, number, number_of}

-- a byte that is neither a tab nor printable, or too few fields, or neither a send nor a hold, or a hold of too many
-- fields
abbrev pub is_misformed : List ℕ → List (List ℕ) → Bool
is_misformed line fs =
    not (list_all is_plain line)
    || (nat_lt (length fs) 5 || (not (is_send fs || is_hold fs) || (is_hold fs && nat_lt 5 (length fs))))

-- some field is no address or word
abbrev pub has_no_word : List (List ℕ) → Bool
has_no_word fs = list_any (λ f. is_none (hex_in f)) fs

-- a cycle, tile, count, address or word isn't spelled as one
abbrev pub is_misspelled : List (List ℕ) → Bool
is_misspelled fs =
    is_none (number (field fs 0))
    || (is_none (number (field fs 1))
    || (if is_send fs then has_no_word (drop 4 fs) else is_none (number (field fs 4))))

-- no tile has this number
abbrev pub is_outside : Plan → ℕ → Bool
is_outside p tile = nat_le (tiles p) tile

-- no domain has this name
abbrev pub is_unknown : Plan → List ℕ → Bool
is_unknown p name = is_none (domain_named p name)

-- the tile doesn't host the domain of this name
abbrev pub is_not_hosted : Plan → ℕ → List ℕ → Bool
is_not_hosted p tile name = not (hosts p tile (unwrap_or (domain_named p name) 0))

-- the most words of a send
abbrev pub most_words : ℕ
most_words = 256

-- a send of no word, or of too many
abbrev pub is_miscounted : List (List ℕ) → Bool
is_miscounted fs = is_send fs && ((length (drop 5 fs) == 0) || nat_lt most_words (length (drop 5 fs)))

-- the first fault whose test holds
abbrev pub first_of : List (Bool × TraceFault) → Option TraceFault
first_of [] = None
first_of (x ∷ xs) = if x.0 then Some x.1 else first_of xs

-- the faults of where an entry goes, and then more
abbrev pub place_faults : Plan → ℕ → ℕ → List ℕ → List (Bool × TraceFault) → List (Bool × TraceFault)
place_faults p n tile name more =
    (is_outside p tile, TileRange n) ∷ (is_unknown p name, DomainUnknown n) ∷ (is_not_hosted p tile name, NotHosted n)
    ∷ more

-- the faults of the fields of a line that is formed
abbrev pub field_faults : Plan → ℕ → List (List ℕ) → List (Bool × TraceFault)
field_faults p n fs =
    (is_misspelled fs, Number n)
    ∷ place_faults p n (number_of (field fs 1)) (field fs 2) ((is_miscounted fs, WordCount n) ∷ [])

-- the faults of line n, where it is not skipped
abbrev pub all_faults : Plan → ℕ → List ℕ → List (Bool × TraceFault)
all_faults p n line = (is_misformed line (fields line), Syntax n) ∷ field_faults p n (fields line)

-- the first fault of line n, which a skipped line doesn't have
abbrev pub line_fault : Plan → ℕ → List ℕ → Option TraceFault
line_fault p n line = if is_skipped (fields line) then None else first_of (all_faults p n line)
