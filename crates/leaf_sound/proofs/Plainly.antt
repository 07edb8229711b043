-- The names of a leaf are names.
use Rattle.std.proofs.Common.{◌≡◌, ℕ, ◌^◌, ◌<◌, ◌≤◌, true, List, [], ◌∷◌, ◌++◌, length, refl, arith, ◌==◌, decimal, length-append}
use Rattle.std.specs.List.{list_any, list_all}
use Rattle.std.specs.Char.{is_ascii_digit}
use Rattle.std.proofs.lemmas.Bool.{and_from}
use Rattle.std.proofs.lemmas.Fmt.{decimal_is_IsNumeral, length-decimal-le}
use Rattle.vl_tree.specs.Tokens.{is_letter, is_run, is_name, is_name_rest}
use Rattle.gen_kit.proofs.Plainly.{run-then, any-then, some-digit, less-true, last-run}
use Rattle.gen_kit.proofs.Spelled.{own-spelled}
use Rattle.leaf_tie.specs.Names.{own}

pub own-plain : (t i : ℕ) → t < 6144 → i < 2 ^ 64 → is_name (own t i) ≡ true
own-plain t i small few = (own-spelled t i small few).plain

-- two letters before two numbers, or three
two-rest : (b n : ℕ) (rest : List ℕ) → is_run b ≡ true → n < 2 ^ 20 → list_all is_run rest ≡ true → length rest ≤ 41 → is_name_rest (b ∷ 95 ∷ (decimal n ++ (95 ∷ rest))) ≡ true
two-rest b n rest letter small run short =
    let digits = decimal_is_IsNumeral n (omega arith) in
    let few = length-decimal-le 9 n (omega arith) (omega arith) (omega arith) in
    rw (letter, run-then (decimal n) (95 ∷ rest) digits.0.1 run, less-true (length (b ∷ 95 ∷ (decimal n ++ (95 ∷ rest)))) 64 (omega (arith, few, short, length-append (decimal n) (95 ∷ rest))))
    (and_from (list_any (λ c. c == 95) (b ∷ 95 ∷ (decimal n ++ (95 ∷ rest)))) (list_any is_ascii_digit (b ∷ 95 ∷ (decimal n ++ (95 ∷ rest))))
    (any-then (λ c. c == 95) (b ∷ []) (95 ∷ (decimal n ++ (95 ∷ rest))) refl) (any-then is_ascii_digit (b ∷ 95 ∷ []) (decimal n ++ (95 ∷ rest)) (some-digit (decimal n) (95 ∷ rest) digits.0.0 digits.0.1)))

pub pair-plain : (a b n d : ℕ) → is_letter a ≡ true → is_run b ≡ true → n < 2 ^ 20 → d < 2 ^ 64 → is_name (a ∷ b ∷ 95 ∷ (decimal n ++ (95 ∷ (decimal d ++ [])))) ≡ true
pair-plain a b n d first second small few = let last = last-run d few in and_from (is_letter a) _ first (two-rest b n (decimal d ++ []) second small last.0 (let short = last.1 in omega (arith, short)))

pub triple-plain : (a b n d : ℕ) → is_letter a ≡ true → is_run b ≡ true → n < 2 ^ 20 → d < 2 ^ 64 → is_name (a ∷ b ∷ 95 ∷ (decimal n ++ (95 ∷ (decimal d ++ (95 ∷ (decimal 1 ++ [])))))) ≡ true
triple-plain a b n d first second small few =
    let last = last-run 1 (omega arith) in
    let digits = decimal_is_IsNumeral d few in
    let long = length-decimal-le 20 d (omega arith) (omega arith) few in
    let short = last.1 in
    and_from (is_letter a) _ first (two-rest b n (decimal d ++ (95 ∷ (decimal 1 ++ []))) second small (run-then (decimal d) (95 ∷ (decimal 1 ++ [])) digits.0.1 last.0) (omega (arith, long, short, length-append (decimal d) (95 ∷ (decimal 1 ++ [])))))
