-- The fields of a line, and the bytes that it may have.
use Rattle.std.specs.Prelude.{ℕ, Bool, not, ◌==◌, ◌||◌, ◌&&◌, nat_le, nat_lt, List, length, filter}
use Rattle.std.specs.List.{slice_split}

-- a space or a tab
abbrev pub is_blank : ℕ → Bool
is_blank b = b == 32 || b == 9

-- a byte of a field
abbrev pub is_ink : ℕ → Bool
is_ink b = not (is_blank b)

-- a tab, or printable ASCII
abbrev pub is_plain : ℕ → Bool
is_plain b = b == 9 || (nat_le 32 b && nat_le b 126)

-- a line feed, as std's `lines` tests for it
abbrev pub is_feed : ℕ → Bool
is_feed b = b == 10

-- what stands between the blanks
abbrev pub is_field : List ℕ → Bool
is_field part = nat_lt 0 (length part)

-- the fields of a line: the runs of bytes that are no blanks
unfoldable pub fields : List ℕ → List (List ℕ)
fields line = filter is_field (slice_split is_blank line)
