-- How many words a buffer's memory has, and how many bits its registers have.
use Rattle.std.specs.Prelude.{ℕ, nat_lt, if◌then◌else◌}

-- one less than the bits of the pointers: the words are the least power of two that is at least 2 and at least the
-- depth, which is at most 16
abbrev pub index_high : ℕ → ℕ
index_high depth = if nat_lt depth 3 then 0 else if nat_lt depth 5 then 1 else if nat_lt depth 9 then 2 else 3

-- one less than the bits of the length: the least number of bits that holds the depth, which is at most 16
abbrev pub count_high : ℕ → ℕ
count_high depth = if nat_lt depth 2 then 0
    else if nat_lt depth 4 then 1 else if nat_lt depth 8 then 2 else if nat_lt depth 16 then 3 else 4
