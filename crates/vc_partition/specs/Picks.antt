-- The round-robin choice of listed members, and from one member after the other.
use Rattle.std.specs.Prelude.{ℕ, Bool, false, List, slice_index_or, ◌==◌, nat_lt, nat_le, ◌&&◌, ◌||◌, if◌then◌else◌, Option, Some, None}

-- whether the list has true at place k
abbrev pub member : List Bool → ℕ → Bool
member set k = slice_index_or set k false

-- the members that are not below a place
abbrev pub from_on : ℕ → (ℕ → Bool) → ℕ → Bool
from_on from set k = nat_le from k && set k

-- whether a comes before b from the pointer on, round the turn
abbrev pub comes_first : ℕ → ℕ → ℕ → Bool
comes_first pointer a b =
    if nat_le pointer a then (nat_lt b pointer || nat_lt a b) else (nat_lt b pointer && nat_lt a b)

-- the choice, with one member more
abbrev pub better : ℕ → Option ℕ → ℕ → Option ℕ
better pointer None m = Some m
better pointer (Some k) m = Some (if comes_first pointer m k then m else k)

-- the set with this number too
abbrev pub with_member : (ℕ → Bool) → ℕ → ℕ → Bool
with_member set m k = set k || (k == m)
