-- A leaf's own names read back: the tag that the letter and the first number spell, and the second number.
use Rattle.std.proofs.Common.{◌≡◌, ℕ, zero, suc, ◌+◌, ◌-◌, ◌*◌, ◌/◌, ◌%◌, ◌^◌, ◌<◌, ◌≤◌, Bool, true, false, List, [], ◌∷◌, ◌++◌, length, refl, sym, ◌∙◌, ap, arith, nat_lt, nat_le, ◌==◌, if◌then◌else◌, decimal}
use Rattle.std.specs.Str.Parse.{AllDigits, digits_value}
use Rattle.std.proofs.lemmas.Bool.Decides.{nat_tests}
use Rattle.std.proofs.lemmas.Fmt.{decimal_is_IsNumeral}
use Rattle.std.proofs.lemmas.Str.Parse.{digit_from_value}
use Rattle.std.specs.List.{list_all}
use Rattle.std.proofs.lemmas.Bool.{and_from}
use Rattle.vl_tree.specs.Tokens.{is_letter, is_run, is_name, is_name_rest}
use Rattle.gen_kit.proofs.Plainly.{rest-is, last-run}
use Rattle.gen_kit.specs.OwnNames.{domain_port, lettered, own_front, short_decimal, own_name_of}

-- ---- numbers between underscores

-- the bytes up to the next underscore, and those behind it
abbrev pub upto : List ℕ → List ℕ
upto [] = []
upto (b ∷ bs) = if b == 95 then [] else b ∷ upto bs

abbrev pub behind : List ℕ → List ℕ
behind [] = []
behind (b ∷ bs) = if b == 95 then bs else behind bs

not-line : (b : ℕ) → (48 ≤ b) × (b ≤ 57) → (b == 95) ≡ false
not-line b h = let low = h.0 in let high = h.1 in grind (arith, nat_tests)

pub upto-digits : (ds rest : List ℕ) → AllDigits 10 ds → (upto (ds ++ 95 ∷ rest) ≡ ds) × (behind (ds ++ 95 ∷ rest) ≡ rest)
upto-digits [] rest all = (refl, refl)
upto-digits (d ∷ ds) rest all =
    let more = upto-digits ds rest all.1 in rw (not-line d (digit_from_value d all.0)) (ap (λ z. d ∷ z) more.0, more.1)

pub upto-last : (ds : List ℕ) → AllDigits 10 ds → upto (ds ++ []) ≡ ds
upto-last [] all = refl
upto-last (d ∷ ds) all = rw (not-line d (digit_from_value d all.0)) (ap (λ z. d ∷ z) (upto-last ds all.1))

pub behind-last : (ds : List ℕ) → AllDigits 10 ds → behind (ds ++ []) ≡ []
behind-last [] all = refl
behind-last (d ∷ ds) all = rw (not-line d (digit_from_value d all.0)) (behind-last ds all.1)

-- whether the first byte is a digit
abbrev pub digit_first : List ℕ → Bool
digit_first [] = false
digit_first (b ∷ bs) = nat_lt b 58

pub some-first : (ds rest : List ℕ) → 0 < length ds → AllDigits 10 ds → digit_first (ds ++ rest) ≡ true
some-first [] rest some all = absurd (omega arith)
some-first (d ∷ ds) rest some all = low d (digit_from_value d all.0)
  where
    low : (b : ℕ) → (48 ≤ b) × (b ≤ 57) → nat_lt b 58 ≡ true
    low b h = let high = h.1 in grind (arith, nat_tests)

abbrev pub digit_second : List ℕ → Bool
digit_second [] = false
digit_second (b ∷ bs) = digit_first bs

-- ---- the tag

abbrev pub domain_at : ℕ → ℕ → ℕ
domain_at odd y = 4 * (y / 16) + 2 * (y % 2) + odd

-- the tag by the kind, 1 for an odd domain, and the number
abbrev pub tag_at : ℕ → ℕ → ℕ → ℕ
tag_at kind odd y =
    if nat_lt kind 16 then 2048 + 128 * domain_at odd y + 8 * kind + y / 2 % 8
    else if nat_lt kind 24 then 5120 + 64 * domain_at odd y + 8 * (kind - 16) + y / 2 % 8
    else if kind == 24 then 64 * domain_at odd (y % 64) + 8 * (y / 2 % 8) + y / 64
    else if nat_lt y 512 then 1024 + 512 * odd + y
    else 4096 + 512 * odd + (y - 512)

abbrev pub tag_behind : ℕ → List ℕ → ℕ
tag_behind letter bs = tag_at ((letter - 65) % 32) ((letter - 65) / 32) (digits_value 10 (upto bs))

abbrev pub number_behind : List ℕ → ℕ
number_behind bs = digits_value 10 (upto (behind bs))

-- what stands in front of a byte, and what behind it
abbrev pub read_tag : List ℕ → ℕ
read_tag [] = 0
read_tag (b ∷ bs) = tag_behind b bs

abbrev pub read_number : List ℕ → ℕ
read_number [] = 0
read_number (b ∷ bs) = number_behind bs

letter-kind : (odd kind : ℕ) → odd < 2 → kind < 26 → (65 + 32 * odd + kind - 65) % 32 ≡ kind
letter-kind odd kind two few = omega arith

letter-odd : (odd kind : ℕ) → odd < 2 → kind < 26 → (65 + 32 * odd + kind - 65) / 32 ≡ odd
letter-odd odd kind two few = omega arith

-- what a name says that begins with a front
pub record Fronted (t : ℕ) (rest front : List ℕ) : Type 0 where
  pub tag : read_tag (front ++ 95 ∷ rest) ≡ t
  pub number : read_number (front ++ 95 ∷ rest) ≡ digits_value 10 (upto rest)
  pub digit : digit_second (front ++ 95 ∷ rest) ≡ true
  pub plain : list_all is_run rest ≡ true → length rest ≤ 41 → is_name (front ++ 95 ∷ rest) ≡ true

letter-plain : (odd kind : ℕ) → odd < 2 → kind < 26 → is_letter (65 + 32 * odd + kind) ≡ true
letter-plain zero kind two few =
    let a : nat_le 65 (65 + kind) ≡ true = grind (arith, nat_tests) in
    let b : nat_le (65 + kind) 90 ≡ true = grind (arith, nat_tests) in rw (a, b) refl
letter-plain (suc zero) kind two few =
    let a : nat_le 65 (97 + kind) ≡ true = grind (arith, nat_tests) in
    let b : nat_le (97 + kind) 90 ≡ false = grind (arith, nat_tests) in
    let c : nat_le 97 (97 + kind) ≡ true = grind (arith, nat_tests) in
    let d : nat_le (97 + kind) 122 ≡ true = grind (arith, nat_tests) in rw (a, b, c, d) refl
letter-plain (suc (suc odd)) kind two few = absurd (omega arith)

lettered-fronted : (t kind d y : ℕ) (rest : List ℕ) → kind < 26 → y < 2 ^ 64 → tag_at kind (d % 2) y ≡ t
    → Fronted t rest (lettered kind d y)
lettered-fronted t kind d y rest few small is =
    let numeral = decimal_is_IsNumeral y small in
    let split = upto-digits (decimal y) rest numeral.0.1 in
    let value : digits_value 10 (upto (decimal y ++ 95 ∷ rest)) ≡ y = ap (digits_value 10) split.0 ∙ numeral.1 in
    record {
      tag = rw (letter-kind (d % 2) kind (omega arith) few, letter-odd (d % 2) kind (omega arith) few, value) is;
      number = ap (λ z. digits_value 10 (upto z)) split.1;
      digit = some-first (decimal y) (95 ∷ rest) numeral.0.0 numeral.0.1;
      plain = λ run short. and_from (is_letter (65 + 32 * (d % 2) + kind)) (is_name_rest (decimal y ++ 95 ∷ rest))
          (letter-plain (d % 2) kind (omega arith) few) (rest-is y rest small run short);
    }

-- the parts of a number
port-part : (a p b : ℕ) → b < 2 → p < 8 → (16 * a + 2 * p + b) / 2 % 8 ≡ p
port-part a p b two few = omega arith

high-part : (a p b : ℕ) → b < 2 → p < 8 → (16 * a + 2 * p + b) / 16 ≡ a
high-part a p b two few = omega arith

low-part : (a p b : ℕ) → b < 2 → (16 * a + 2 * p + b) % 2 ≡ b
low-part a p b two = omega arith

halves : (d : ℕ) → 4 * (d / 4) + 2 * (d / 2 % 2) + d % 2 ≡ d
halves d = omega arith

domain-part : (d p : ℕ) → p < 8 → domain_at (d % 2) (domain_port d p) ≡ d
domain-part d p few =
    rw (high-part (d / 4) p (d / 2 % 2) (omega arith) few, low-part (d / 4) p (d / 2 % 2) (omega arith)) (halves d)

tag-net : (d s p : ℕ) → s < 16 → p < 8 → tag_at s (d % 2) (domain_port d p) ≡ 2048 + 128 * d + 8 * s + p
tag-net d s p low few =
    let first : nat_lt s 16 ≡ true = grind (arith, nat_tests) in
    rw (first, domain-part d p few, port-part (d / 4) p (d / 2 % 2) (omega arith) few) refl

tag-register : (d s p : ℕ) → s < 8 → p < 8 → tag_at (16 + s) (d % 2) (domain_port d p) ≡ 5120 + 64 * d + 8 * s + p
tag-register d s p low few =
    let first : nat_lt (16 + s) 16 ≡ false = grind (arith, nat_tests) in
    let second : nat_lt (16 + s) 24 ≡ true = grind (arith, nat_tests) in
    rw (first, second, domain-part d p few, port-part (d / 4) p (d / 2 % 2) (omega arith) few) (omega arith)

tag-buffer : (d p c : ℕ) → d < 16 → p < 8 → c < 8 → tag_at 24 (d % 2) (64 * c + domain_port d p) ≡ 64 * d + 8 * p + c
tag-buffer d p c low few less =
    let a : (64 * c + domain_port d p) % 64 ≡ domain_port d p = omega arith in
    let b : (64 * c + domain_port d p) / 64 ≡ c = omega arith in
    let e : (64 * c + domain_port d p) / 2 % 8 ≡ p = omega arith in
    rw (a, b, e, domain-part d p few) refl

front-spelled : (t : ℕ) (rest : List ℕ) → t < 6144 → Fronted t rest (own_front t)
unfolding own_front
front-spelled t rest few = first (nat_lt t 1024) refl
  where
    fourth : (b : Bool) → nat_lt t 1024 ≡ false → nat_lt t 2048 ≡ false → nat_lt t 4096 ≡ false → nat_lt t 5120 ≡ b
        → Fronted t rest (own_front t)
    fourth true x y z e =
        let low : 4096 ≤ t = grind (arith, nat_tests, z) in
        let high : t < 5120 = grind (arith, nat_tests, e) in
        let late : nat_lt (512 + t % 512) 512 ≡ false = grind (arith, nat_tests) in
        rw (x, y, z, e) (lettered-fronted t 25 (t / 512) (512 + t % 512) rest (omega arith) (omega arith) (rw late (omega arith)))
    fourth false x y z e =
        let low : 5120 ≤ t = grind (arith, nat_tests, e) in
        let same : 5120 + 64 * (t / 64 - 80) + 8 * (t / 8 % 8) + t % 8 ≡ t = omega arith in
        let odd : t / 64 % 2 ≡ (t / 64 - 80) % 2 = omega arith in
        let tag = tag-register (t / 64 - 80) (t / 8 % 8) (t % 8) (omega arith) (omega arith) in
        rw (x, y, z, e) (lettered-fronted t (16 + t / 8 % 8) (t / 64) (domain_port (t / 64 - 80) (t % 8)) rest (omega arith)
        (omega arith) (ap (λ q. tag_at (16 + t / 8 % 8) q (domain_port (t / 64 - 80) (t % 8))) odd ∙ tag ∙ same))

    third : (b : Bool) → nat_lt t 1024 ≡ false → nat_lt t 2048 ≡ false → nat_lt t 4096 ≡ b → Fronted t rest (own_front t)
    third true x y e =
        let low : 2048 ≤ t = grind (arith, nat_tests, y) in
        let high : t < 4096 = grind (arith, nat_tests, e) in
        let same : 2048 + 128 * (t / 128 - 16) + 8 * (t / 8 % 16) + t % 8 ≡ t = omega arith in
        let odd : t / 128 % 2 ≡ (t / 128 - 16) % 2 = omega arith in
        let tag = tag-net (t / 128 - 16) (t / 8 % 16) (t % 8) (omega arith) (omega arith) in
        rw (x, y, e) (lettered-fronted t (t / 8 % 16) (t / 128) (domain_port (t / 128 - 16) (t % 8)) rest (omega arith)
        (omega arith) (ap (λ q. tag_at (t / 8 % 16) q (domain_port (t / 128 - 16) (t % 8))) odd ∙ tag ∙ same))
    third false x y e = fourth (nat_lt t 5120) x y e refl

    second : (b : Bool) → nat_lt t 1024 ≡ false → nat_lt t 2048 ≡ b → Fronted t rest (own_front t)
    second true x e =
        let low : 1024 ≤ t = grind (arith, nat_tests, x) in
        let high : t < 2048 = grind (arith, nat_tests, e) in
        let early : nat_lt (t % 512) 512 ≡ true = grind (arith, nat_tests) in
        rw (x, e) (lettered-fronted t 25 (t / 512) (t % 512) rest (omega arith) (omega arith) (rw early (omega arith)))
    second false x e = third (nat_lt t 4096) x e refl

    first : (b : Bool) → nat_lt t 1024 ≡ b → Fronted t rest (own_front t)
    first true e =
        let low : t < 1024 = grind (arith, nat_tests, e) in
        let same : 64 * (t / 64) + 8 * (t / 8 % 8) + t % 8 ≡ t = omega arith in
        let tag = tag-buffer (t / 64) (t / 8 % 8) (t % 8) (omega arith) (omega arith) (omega arith) in
        rw e (lettered-fronted t 24 (t / 64) (64 * (t % 8) + domain_port (t / 64) (t / 8 % 8)) rest (omega arith)
        (omega arith) (tag ∙ same))
    first false e = second (nat_lt t 2048) e refl

-- ---- the second number

-- a number that is left out where it is 0
short-spelled : (i : ℕ) → i < 2 ^ 64 → (digits_value 10 (upto (short_decimal i ++ [])) ≡ i)
    × (list_all is_run (short_decimal i ++ []) ≡ true) × (length (short_decimal i ++ []) ≤ 20)
short-spelled i few = go (i == 0) refl
  where
    go : (b : Bool) → (i == 0) ≡ b → (digits_value 10 (upto (short_decimal i ++ [])) ≡ i)
        × (list_all is_run (short_decimal i ++ []) ≡ true) × (length (short_decimal i ++ []) ≤ 20)
    go true e = let none : i ≡ 0 = grind (arith, nat_tests, e) in rw e (sym none, refl, omega arith)
    go false e =
        let numeral = decimal_is_IsNumeral i few in
        let last = last-run i few in
        rw e (ap (digits_value 10) (upto-last (decimal i) numeral.0.1) ∙ numeral.1, last.0, last.1)

-- what a leaf's own name says
pub record OwnSpelled (t i : ℕ) (n : List ℕ) : Type 0 where
  pub tag : read_tag n ≡ t
  pub number : read_number n ≡ i
  pub digit : digit_second n ≡ true
  pub plain : is_name n ≡ true

pub own-spelled : (t i : ℕ) → t < 6144 → i < 2 ^ 64 → OwnSpelled t i (own_name_of t (i ∷ []))
own-spelled t i small few =
    let short = short-spelled i few in
    let front = front-spelled t (short_decimal i ++ []) small in
    record {
      tag = front.tag;
      number = front.number ∙ short.0;
      digit = front.digit;
      plain = front.plain short.1 (let most = short.2 in omega (arith, most));
    }
