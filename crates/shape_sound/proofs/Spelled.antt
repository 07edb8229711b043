-- The names of the top and of leaves' ports are names.
use Rattle.std.proofs.Common.{◌≡◌, ℕ, ◌+◌, ◌*◌, ◌<◌, ◌≤◌, Bool, true, false, ◌&&◌, ◌||◌, List, [], ◌∷◌, ◌++◌, length, refl, ◌∙◌, arith, ◌==◌, nat_lt, length-append}
use Rattle.std.specs.Prelude.{decimal, flat_map}
use Rattle.std.specs.List.{AllByRecursion, list_all, list_any}
use Rattle.std.specs.Char.{is_ascii_digit}
use Rattle.std.specs.Str.Parse.{AllDigits}
use Rattle.std.proofs.lemmas.Bool.{and_from, false≢true}
use Rattle.std.proofs.lemmas.Bool.Decides.{nat_tests}
use Rattle.std.proofs.lemmas.Fmt.{decimal_is_IsNumeral, decimal_nonempty, length-decimal-le}
use Rattle.std.proofs.lemmas.List.Folds.{list_all-append, list_any-append}
use Rattle.std.proofs.lemmas.Str.Parse.{digit_from_value}
use Rattle.vl_tree.specs.Tokens.{is_letter, is_run, is_name, is_name_rest}
use Rattle.gen_kit.specs.Ports.{name_with}

abbrev tail_of : List ℕ → List ℕ
tail_of ns = flat_map (λ n. 95 ∷ decimal n) ns

digit-runs : (d : ℕ) → (48 ≤ d) × (d ≤ 57) → is_run d ≡ true
digit-runs d h = let low = h.0 in let high = h.1 in grind (arith, nat_tests)

digit-is : (d : ℕ) → (48 ≤ d) × (d ≤ 57) → is_ascii_digit d ≡ true
digit-is d h = let low = h.0 in let high = h.1 in grind (arith, nat_tests)

digits-run : (ds : List ℕ) → AllDigits 10 ds → list_all is_run ds ≡ true
digits-run [] all = refl
digits-run (d ∷ ds) all = and_from (is_run d) (list_all is_run ds) (digit-runs d (digit_from_value d all.0)) (digits-run ds all.1)

tail-runs : (ns : List ℕ) → AllByRecursion (λ n. n < 1000) ns → list_all is_run (tail_of ns) ≡ true
tail-runs [] all = refl
tail-runs (n ∷ ns) all =
    let few = all.0 in
    list_all-append is_run (decimal n) (tail_of ns)
    ∙ and_from (list_all is_run (decimal n)) (list_all is_run (tail_of ns)) (digits-run (decimal n) (decimal_is_IsNumeral n (omega (arith, few))).0.1) (tail-runs ns all.1)

tail-short : (ns : List ℕ) → AllByRecursion (λ n. n < 1000) ns → length (tail_of ns) ≤ 4 * length ns
tail-short [] all = omega arith
tail-short (n ∷ ns) all =
    let few = all.0 in
    let one : length (decimal n) ≤ 3 = length-decimal-le 3 n (omega arith) (omega (arith, few)) (omega (arith, few)) in
    let rest = tail-short ns all.1 in
    let whole = length-append (decimal n) (tail_of ns) in
    omega (arith, one, rest, whole)

or-last : (a b : Bool) → b ≡ true → (a || b) ≡ true
or-last true b e = refl
or-last false b e = e

or-first : (a b : Bool) → a ≡ true → (a || b) ≡ true
or-first true b e = refl
or-first false b e = absurd (false≢true e)

has-digit : (n : ℕ) (more : List ℕ) → n < 1000 → list_any is_ascii_digit (decimal n ++ more) ≡ true
has-digit n more few = go (decimal n) (decimal_nonempty n (omega (arith, few))) (decimal_is_IsNumeral n (omega (arith, few))).0.1
  where
    go : (ds : List ℕ) → 0 < length ds → AllDigits 10 ds → list_any is_ascii_digit (ds ++ more) ≡ true
    go [] some all = absurd (omega (arith, some))
    go (d ∷ ds) some all = or-first (is_ascii_digit d) (list_any is_ascii_digit (ds ++ more)) (digit-is d (digit_from_value d all.0))

pub spelled : (c : ℕ) (hs : List ℕ) (n : ℕ) (ns : List ℕ) → is_letter c ≡ true → list_all is_run hs ≡ true → length hs ≤ 5 → length ns ≤ 2 → n < 1000 → AllByRecursion (λ k. k < 1000) ns
    → is_name (name_with (c ∷ hs) (n ∷ ns)) ≡ true
spelled c hs n ns letter runs short few small all =
    and_from (is_letter c) (is_name_rest rest) letter
    (and_from (list_all is_run rest && nat_lt (length rest) 64 && list_any (λ b. b == 95) rest) (list_any is_ascii_digit rest)
    (and_from (list_all is_run rest && nat_lt (length rest) 64) (list_any (λ b. b == 95) rest)
    (and_from (list_all is_run rest) (nat_lt (length rest) 64) all-run fits) has-line) has-number)
  where
    tail : List ℕ
    tail = 95 ∷ (decimal n ++ tail_of ns)

    rest : List ℕ
    rest = hs ++ tail

    all-run : list_all is_run (hs ++ (95 ∷ (decimal n ++ tail_of ns))) ≡ true
    all-run = list_all-append is_run hs (95 ∷ (decimal n ++ tail_of ns)) ∙ and_from (list_all is_run hs) (list_all is_run (tail_of (n ∷ ns))) runs (tail-runs (n ∷ ns) (small, all))

    fits : nat_lt (length (hs ++ (95 ∷ (decimal n ++ tail_of ns)))) 64 ≡ true
    fits =
        let most : length (tail_of (n ∷ ns)) ≤ 4 * length (n ∷ ns) = tail-short (n ∷ ns) (small, all) in
        let whole : length (hs ++ tail_of (n ∷ ns)) ≡ length hs + length (tail_of (n ∷ ns)) = length-append hs (tail_of (n ∷ ns)) in
        let less : length (hs ++ tail_of (n ∷ ns)) < 64 = omega (arith, most, whole, short, few) in
        grind (arith, nat_tests, less)

    has-line : list_any (λ b. b == 95) (hs ++ (95 ∷ (decimal n ++ tail_of ns))) ≡ true
    has-line = list_any-append (λ b. b == 95) hs (95 ∷ (decimal n ++ tail_of ns)) ∙ or-last (list_any (λ b. b == 95) hs) true refl

    has-number : list_any is_ascii_digit (hs ++ (95 ∷ (decimal n ++ tail_of ns))) ≡ true
    has-number =
        list_any-append is_ascii_digit hs (95 ∷ (decimal n ++ tail_of ns))
        ∙ or-last (list_any is_ascii_digit hs) (list_any is_ascii_digit (decimal n ++ tail_of ns)) (has-digit n (tail_of ns) small)
