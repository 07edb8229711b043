-- Numbers by their digits.
use Rattle.std.proofs.Common.{◌≡◌, ℕ, ◌+◌, ◌*◌, ◌^◌, ◌<◌, ◌≤◌, Bool, true, false, cond, ltb, List, [], ◌∷◌, length, get_or, take, Option, Some, None, refl, sym, ap, ◌∙◌, arith}
use Rattle.std.specs.Char.{digit_value, is_digit}
use Rattle.std.specs.Str.Parse.{digits_value}
use Rattle.std.proofs.lemmas.Bool.{ltb-true, ltb-false, lt-ltb, le-ltb}
use Rattle.std.proofs.lemmas.List.{take_all}
use Rattle.std.proofs.lemmas.Int.Digits.{digits_value-lt, digits_value_more}
use Rattle.std.proofs.lemmas.Str.Parse.{digits_value-take-le}
use Rattle.std.proofs.Math.Nat.{pow-le-pow_right}
use Rattle.vl_tree.specs.Tokens.{all_digits}
use Rattle.vl_tree.proofs.Lexed.{and_true, digits_all}

pub base_some : (base : ℕ) (ds : List ℕ) → all_digits base ds ≡ true → 0 < length ds → 0 < base
base_some base [] e h = absurd (omega arith)
base_some base (d ∷ ds) e h =
    let k = ltb-true (digit_value d) base (and_true (is_digit d base) (all_digits base ds) e).0 in
    omega arith

pub plain_fits : (ds : List ℕ) → all_digits 10 ds ≡ true → length ds < 10 → digits_value 10 ds < 1000000000
plain_fits ds e short =
    let le : length ds ≤ 9 = omega arith in
    let ten : 0 < 10 = omega arith in
    omega (arith, digits_value-lt 10 ds (digits_all 10 ds e), pow-le-pow_right ten le)

-- a number where it fits in 64 bits
abbrev pub fitting : ℕ → Option ℕ
fitting n = cond (ltb n (2 ^ 64)) (Some n) None

fits_not : (b : Bool) (n : ℕ) → cond b (Some n) None ≡ None → b ≡ false
fits_not true n e = absurd cc
fits_not false n e = refl

fits_is : (b : Bool) (n m : ℕ) → cond b (Some n) None ≡ Some m → (b ≡ true) × (n ≡ m)
fits_is true n m e = (refl, cc)
fits_is false n m e = absurd cc

pub value_ends : (base number i : ℕ) (ds : List ℕ) → number ≡ digits_value base (take i ds) → number < 2 ^ 64
    → length ds ≤ i → Some number ≡ fitting (digits_value base ds)
value_ends base number i ds is fits all =
    let k : number ≡ digits_value base ds = is ∙ ap (digits_value base) (take_all i ds all) in
    let t : ltb number (2 ^ 64) ≡ true = lt-ltb number (2 ^ 64) fits in
    rw (← k, t) refl

pub value_stops : (base number i : ℕ) (ds : List ℕ) → 0 < base → i < length ds → number ≡ digits_value base (take i ds)
    → fitting (number * base + digit_value (get_or ds i 0)) ≡ None → None ≡ fitting (digits_value base ds)
value_stops base number i ds some lt is e =
    let f =
    fits_not (ltb (number * base + digit_value (get_or ds i 0)) (2 ^ 64)) (number * base + digit_value (get_or ds i 0)) e in
    let large : 2 ^ 64 ≤ number * base + digit_value (get_or ds i 0) = ltb-false _ _ f in
    let grown : digits_value base (take (i + 1) ds) ≡ number * base + digit_value (get_or ds i 0) =
    rw is (digits_value_more base ds i lt) in
    let t : ltb (digits_value base ds) (2 ^ 64) ≡ false =
    le-ltb _ _ (omega (arith, digits_value-take-le base ds (i + 1) some, grown)) in
    rw t refl

pub value_on : (base number i m : ℕ) (ds : List ℕ) → i < length ds → number ≡ digits_value base (take i ds)
    → fitting (number * base + digit_value (get_or ds i 0)) ≡ Some m
    → (m ≡ digits_value base (take (i + 1) ds)) × (m < 2 ^ 64)
value_on base number i m ds lt is e =
    let f =
    fits_is (ltb (number * base + digit_value (get_or ds i 0)) (2 ^ 64)) (number * base + digit_value (get_or ds i 0)) m e in
    let grown : digits_value base (take (i + 1) ds) ≡ number * base + digit_value (get_or ds i 0) =
    rw is (digits_value_more base ds i lt) in
    let below = ltb-true (number * base + digit_value (get_or ds i 0)) (2 ^ 64) f.0 in
    (sym f.1 ∙ sym grown, omega (arith, f.1))
