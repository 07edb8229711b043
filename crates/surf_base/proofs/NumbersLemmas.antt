-- Laws of digits and the numbers that they write.
use Rattle.std.proofs.Common.{◌≡◌, ℕ, zero, suc, ◌+◌, ◌*◌, ◌/◌, ◌^◌, ◌<◌, ◌≤◌, ◌%◌, List, [], ◌∷◌, ◌++◌, length, take, set, get_or, ap, sym, ◌∙◌, refl, arith}
use Rattle.std.proofs.lemmas.Int.Digits.{digits_value-lt, digits_more, digits_value_more}
use Rattle.std.proofs.Math.Nat.{pow-le-pow_left, pow-le-pow_right}
use Rattle.std.proofs.lemmas.Fmt.{decimal_step}
use Rattle.std.proofs.lemmas.List.{take_more_set, length_push, length-take, take_all}
use Rattle.std.specs.Fmt.{decimal}
use Rattle.std.specs.Char.{digit_value}
use Rattle.std.specs.Str.Parse.{AllDigits, digits_value}

-- each byte of digits is a digit
pub AllDigits-at : (radix : ℕ) (bytes : List ℕ) (i : ℕ) → i < length bytes → AllDigits radix bytes
    → digit_value (get_or bytes i 0) < radix
AllDigits-at radix [] i within all = absurd (omega arith)
AllDigits-at radix (c ∷ cs) zero within all = all.0
AllDigits-at radix (c ∷ cs) (suc i) within all = AllDigits-at radix cs i (omega arith) all.1

-- at most 10 digits of a radix up to 16 write a number below 2 to the 40
pub digits_value-small : (radix : ℕ) (bytes : List ℕ) → 1 ≤ radix → radix ≤ 16 → length bytes ≤ 10
    → AllDigits radix bytes → digits_value radix bytes < 2 ^ 40
digits_value-small radix bytes low high short all =
    let below = digits_value-lt radix bytes all in
    let longer : radix ^ length bytes ≤ radix ^ 10 = pow-le-pow_right low short in
    let greater : radix ^ 10 ≤ 16 ^ 10 = pow-le-pow_left high 10 in
    omega (arith, below, longer, greater)

-- the first bytes are digits, and write this number
pub record Reads (radix : ℕ) (bytes : List ℕ) (i value : ℕ) : Type 0 where
  pub digits : AllDigits radix (take i bytes)
  pub value_is : value ≡ digits_value radix (take i bytes)

-- one digit more
pub Reads-next : (radix : ℕ) (bytes : List ℕ) (i value byte digit : ℕ)
    → i < length bytes → byte ≡ get_or bytes i 0 → digit_value byte < radix → digit_value byte ≡ digit
    → Reads radix bytes i value → Reads radix bytes (i + 1) (value * radix + digit)
Reads-next radix bytes i value byte digit within is below digit_is reads =
    let below' = rw is at below in
    let digit_is' = rw is at digit_is in
    record {
      digits = digits_more radix bytes i within reads.digits below';
      value_is = rw (digits_value_more radix bytes i within, digit_is', reads.value_is) refl;
    }

-- the number is small
pub Reads-small : (radix : ℕ) (bytes : List ℕ) (i value : ℕ) → 1 ≤ radix → radix ≤ 16 → length bytes ≤ 10
    → Reads radix bytes i value → value < 2 ^ 40
Reads-small radix bytes i value low high short reads =
    rw reads.value_is (digits_value-small radix (take i bytes) low high (omega (arith, length-take i bytes, short)) reads.digits)

-- the number of one digit more is small too
pub Reads-next_small : (radix : ℕ) (bytes : List ℕ) (i value byte digit : ℕ) → 1 ≤ radix → radix ≤ 16
    → length bytes ≤ 10
    → i < length bytes → byte ≡ get_or bytes i 0 → digit_value byte < radix → digit_value byte ≡ digit
    → Reads radix bytes i value → value * radix + digit < 2 ^ 40
Reads-next_small radix bytes i value byte digit low high short within is below digit_is reads =
    Reads-small radix bytes (i + 1) _ low high short (Reads-next radix bytes i value byte digit within is below digit_is reads)

-- all bytes are digits, and write this number
pub Reads-all : (radix : ℕ) (bytes : List ℕ) (i value : ℕ) → length bytes ≤ i → Reads radix bytes i value
    → AllDigits radix bytes × (digits_value radix bytes ≡ value)
Reads-all radix bytes i value past reads =
    let all = take_all i bytes past in
    (rw all at reads.digits, sym (rw all at reads.value_is))

-- one digit more than the number without its last digit
pub length-decimal_step : (n : ℕ) → 10 ≤ n → n < 2 ^ 64 → length (decimal n) ≡ length (decimal (n / 10)) + 1
length-decimal_step n large small =
    ap length (decimal_step n large small) ∙ length_push (decimal (n / 10)) (48 + n % 10)

-- a last digit behind the others
pub put_last : (buf digits : List ℕ) (count last : ℕ) → count < length buf → take count buf ≡ digits
    → take (count + 1) (set buf count last) ≡ digits ++ last ∷ []
put_last buf digits count last within front = take_more_set buf count last within ∙ ap (λ ds. ds ++ last ∷ []) front
