-- Numbers as they are spelled in descriptions, traces and reports.
use Rattle.std.specs.Prelude.{ℕ, ◌^◌, ◌/◌, ◌%◌, ◌≤◌, Bool, false, ◌&&◌, nat_le, nat_lt, if◌then◌else◌, List, [], ◌∷◌, ◌++◌, length, map, Option, Some, None}
use Rattle.std.specs.Char.{digit_value}
use Rattle.std.specs.List.{list_all}
use Rattle.std.specs.Fmt.{decimal, digit_glyph}
use Rattle.std.specs.Str.Parse.{IsNumeral, digits_value}

-- the number that decimal digits write
abbrev pub decimal_value : List ℕ → ℕ
decimal_value bytes = digits_value 10 bytes

-- 1 to 10 decimal digits that write a number of at most `most`
abbrev pub IsDecimal : ℕ → List ℕ → Type 0
IsDecimal most bytes = IsNumeral 10 bytes × (length bytes ≤ 10) × (decimal_value bytes ≤ most)

-- a label, and a number in decimal
abbrev pub labelled : List ℕ → ℕ → List ℕ
labelled label n = label ++ decimal n

-- the number that hexadecimal digits write
abbrev pub hex_value : List ℕ → ℕ
hex_value bytes = digits_value 16 bytes

-- 1 to 8 hexadecimal digits, in either case
abbrev pub IsHex : List ℕ → Type 0
IsHex bytes = IsNumeral 16 bytes × (length bytes ≤ 8)

-- the 8 lower-case hexadecimal digits of a word
abbrev pub hex_word : ℕ → List ℕ
hex_word value = map (λ place. digit_glyph false ((value / 16 ^ place) % 16)) (7 ∷ 6 ∷ 5 ∷ 4 ∷ 3 ∷ 2 ∷ 1 ∷ 0 ∷ [])

-- each byte is a digit of the radix
abbrev pub are_digits : ℕ → List ℕ → Bool
are_digits radix bytes = list_all (λ c. nat_lt (digit_value c) radix) bytes

-- 1 to `longest` digits of the radix
abbrev pub is_numeral : ℕ → ℕ → List ℕ → Bool
is_numeral radix longest bytes = nat_le 1 (length bytes) && (nat_le (length bytes) longest && are_digits radix bytes)

-- whether the bytes are 1 to 10 decimal digits that write a number of at most `most`
abbrev pub is_decimal : ℕ → List ℕ → Bool
is_decimal most bytes = is_numeral 10 10 bytes && nat_le (decimal_value bytes) most

-- the number of at most `most` that the bytes are, in decimal
unfoldable pub decimal_in : ℕ → List ℕ → Option ℕ
decimal_in most bytes = if is_decimal most bytes then Some (decimal_value bytes) else None

-- whether the bytes are 1 to 8 hexadecimal digits, in either case
abbrev pub is_hex : List ℕ → Bool
is_hex bytes = is_numeral 16 8 bytes

-- the number that the bytes are, in hexadecimal
unfoldable pub hex_in : List ℕ → Option ℕ
hex_in bytes = if is_hex bytes then Some (hex_value bytes) else None
