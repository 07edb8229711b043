-- A number as an answer that computes.
use Rattle.std.proofs.Common.{◌≡◌, ℕ, ◌<◌, ◌≤◌, Bool, true, false, ◌&&◌, List, [], ◌∷◌, length, refl, ap, arith}
use Rattle.std.specs.Prelude.{nat_le, nat_lt, Option, Some, None}
use Rattle.std.specs.Char.{digit_value}
use Rattle.std.specs.Option.{SomeIff}
use Rattle.std.specs.Str.Parse.{AllDigits, IsNumeral}
use Rattle.std.proofs.lemmas.Bool.Decides.{nat_tests}
use Rattle.surf_base.specs.Numbers.{decimal_value, IsDecimal, hex_value, IsHex, are_digits, is_numeral, is_decimal, decimal_in, is_hex, hex_in}

both : (a b : Bool) → (a && b) ≡ true → (a ≡ true) × (b ≡ true)
both true b h = (refl, h)
both false b h = absurd cc

digits : (radix : ℕ) (bytes : List ℕ) → AllDigits radix bytes → are_digits radix bytes ≡ true
digits radix [] h = refl
digits radix (c ∷ cs) h =
    let less : digit_value c < radix = h.0 in
    let first : nat_lt (digit_value c) radix ≡ true = grind (arith, nat_tests) in
    rw first (digits radix cs h.1)

digits-back : (radix : ℕ) (bytes : List ℕ) → are_digits radix bytes ≡ true → AllDigits radix bytes
digits-back radix [] h = tt
digits-back radix (c ∷ cs) h =
    let parts = both (nat_lt (digit_value c) radix) (are_digits radix cs) h in
    let first : nat_lt (digit_value c) radix ≡ true = parts.0 in
    (grind (arith, nat_tests), digits-back radix cs parts.1)

numeral : (radix longest : ℕ) (bytes : List ℕ) → IsNumeral radix bytes → length bytes ≤ longest
    → is_numeral radix longest bytes ≡ true
numeral radix longest bytes h short =
    let some : 0 < length bytes = h.0 in
    let a : nat_le 1 (length bytes) ≡ true = grind (arith, nat_tests) in
    let b : nat_le (length bytes) longest ≡ true = grind (arith, nat_tests) in
    rw (a, b) (digits radix bytes h.1)

numeral-back : (radix longest : ℕ) (bytes : List ℕ) → is_numeral radix longest bytes ≡ true
    → IsNumeral radix bytes × (length bytes ≤ longest)
numeral-back radix longest bytes h =
    let a = both (nat_le 1 (length bytes)) _ h in
    let b = both (nat_le (length bytes) longest) _ a.1 in
    let one : nat_le 1 (length bytes) ≡ true = a.0 in
    let short : nat_le (length bytes) longest ≡ true = b.0 in
    ((grind (arith, nat_tests), digits-back radix bytes b.1), grind (arith, nat_tests))

holds : (most : ℕ) (bytes : List ℕ) → IsDecimal most bytes → is_decimal most bytes ≡ true
holds most bytes (h, short, small) =
    let few : nat_le (decimal_value bytes) most ≡ true = grind (arith, nat_tests) in
    rw (numeral 10 10 bytes h short, few) refl

says : (most : ℕ) (bytes : List ℕ) → is_decimal most bytes ≡ true → IsDecimal most bytes
says most bytes h =
    let parts = both (is_numeral 10 10 bytes) _ h in
    let n = numeral-back 10 10 bytes parts.0 in
    let few : nat_le (decimal_value bytes) most ≡ true = parts.1 in
    (n.0, n.1, grind (arith, nat_tests))

-- the answer that is there exactly where the bytes are such a number
pub decimal_in-is : (r : Option ℕ) (most : ℕ) (bytes : List ℕ) → SomeIff r (IsDecimal most bytes) (decimal_value bytes)
    → r ≡ decimal_in most bytes
unfolding decimal_in
decimal_in-is (Some x) most bytes h = rw (holds most bytes h.0) (ap Some h.1)
decimal_in-is None most bytes h = go (is_decimal most bytes) refl
  where
    go : (b : Bool) → is_decimal most bytes ≡ b → None ≡ decimal_in most bytes
    go true e = absurd (h (says most bytes e))
    go false e = rw e refl

pub hex_in-is : (r : Option ℕ) (bytes : List ℕ) → SomeIff r (IsHex bytes) (hex_value bytes) → r ≡ hex_in bytes
unfolding hex_in
hex_in-is (Some x) bytes h = let is : is_hex bytes ≡ true = numeral 16 8 bytes h.0.0 h.0.1 in rw is (ap Some h.1)
hex_in-is None bytes h = go (is_hex bytes) refl
  where
    go : (b : Bool) → is_hex bytes ≡ b → None ≡ hex_in bytes
    go true e = absurd (h (numeral-back 16 8 bytes e))
    go false e = rw e refl
