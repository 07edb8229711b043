-- Bytes of a name: digits run on, and what stands behind the first letter.
use Rattle.std.proofs.Common.{◌≡◌, ℕ, ◌^◌, ◌<◌, ◌≤◌, Bool, true, false, ◌||◌, List, [], ◌∷◌, ◌++◌, length, refl, arith, nat_lt, nat_le, ◌==◌, decimal, length-append}
use Rattle.std.specs.List.{list_any, list_all}
use Rattle.std.specs.Char.{is_ascii_digit}
use Rattle.std.specs.Str.Parse.{AllDigits}
use Rattle.std.proofs.lemmas.Bool.Decides.{nat_tests}
use Rattle.std.proofs.lemmas.Fmt.{decimal_is_IsNumeral, length-decimal-le}
use Rattle.std.proofs.lemmas.Str.Parse.{digit_from_value}
use Rattle.vl_tree.specs.Tokens.{is_run, is_name_rest}

pub digit-run : (b : ℕ) → (48 ≤ b) × (b ≤ 57) → (is_run b ≡ true) × (is_ascii_digit b ≡ true)
digit-run b h =
    let low = h.0 in let high = h.1 in
    let a : nat_le 48 b ≡ true = grind (arith, nat_tests) in
    let c : nat_le b 57 ≡ true = grind (arith, nat_tests) in
    let x : nat_le 65 b ≡ false = grind (arith, nat_tests) in
    let y : nat_le 97 b ≡ false = grind (arith, nat_tests) in
    (rw (a, c, x, y) refl, rw (a, c) refl)

pub run-then : (ds rest : List ℕ) → AllDigits 10 ds → list_all is_run rest ≡ true → list_all is_run (ds ++ rest) ≡ true
run-then [] rest all r = r
run-then (d ∷ ds) rest all r = rw (digit-run d (digit_from_value d all.0)).0 (run-then ds rest all.1 r)

pub any-then : (test : ℕ → Bool) (ds rest : List ℕ) → list_any test rest ≡ true → list_any test (ds ++ rest) ≡ true
any-then test [] rest r = r
any-then test (d ∷ ds) rest r = go (test d) (any-then test ds rest r)
  where
    go : (b : Bool) → list_any test (ds ++ rest) ≡ true → (b || list_any test (ds ++ rest)) ≡ true
    go true e = refl
    go false e = e

pub some-digit : (ds rest : List ℕ) → 0 < length ds → AllDigits 10 ds → list_any is_ascii_digit (ds ++ rest) ≡ true
some-digit [] rest some all = absurd (omega arith)
some-digit (d ∷ ds) rest some all = rw (digit-run d (digit_from_value d all.0)).1 refl

pub less-true : (a b : ℕ) → a < b → nat_lt a b ≡ true
less-true a b h = grind (arith, nat_tests)

-- digits, an underscore, and what runs on
pub rest-is : (n : ℕ) (rest : List ℕ) → n < 2 ^ 64 → list_all is_run rest ≡ true → length rest ≤ 41 → is_name_rest (decimal n ++ (95 ∷ rest)) ≡ true
rest-is n rest small run short =
    let digits = decimal_is_IsNumeral n small in
    let few = length-decimal-le 20 n (omega arith) (omega arith) small in
    rw (run-then (decimal n) (95 ∷ rest) digits.0.1 run, less-true (length (decimal n ++ (95 ∷ rest))) 64 (omega (arith, few, short, length-append (decimal n) (95 ∷ rest))), any-then (λ c. c == 95) (decimal n) (95 ∷ rest) refl, some-digit (decimal n) (95 ∷ rest) digits.0.0 digits.0.1) refl

pub last-run : (n : ℕ) → n < 2 ^ 64 → (list_all is_run (decimal n ++ []) ≡ true) × (length (decimal n ++ []) ≤ 20)
last-run n small = (run-then (decimal n) [] (decimal_is_IsNumeral n small).0.1 refl, (let few = length-decimal-le 20 n (omega arith) (omega arith) small in omega (arith, few, length-append (decimal n) [])))
