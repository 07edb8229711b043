-- Names read back: the tag and the number of a name of a leaf's own, and its rank, which is higher the later the text
-- drives it.
use Rattle.std.proofs.Common.{◌≡◌, ℕ, ◌+◌, ◌*◌, ◌^◌, ◌<◌, ◌≤◌, Bool, true, false, List, [], ◌∷◌, ◌++◌, length, refl, ◌∙◌, ap, arith, nat_lt, ◌==◌, if◌then◌else◌, decimal}
use Rattle.std.specs.Str.Parse.{digits_value}
use Rattle.std.proofs.lemmas.Bool.Decides.{nat_tests}
use Rattle.std.proofs.lemmas.Fmt.{decimal_is_IsNumeral}
use Rattle.vl_tree.specs.Values.{Name}
use Rattle.gen_kit.proofs.Spelled.{upto, behind, upto-digits, upto-last, behind-last, digit_second, read_tag, read_number, own-spelled}
use Rattle.leaf_tie.specs.Names.{own}

-- the place of a name among those of its tag: a buffer's front and mark of emptiness are driven first, and its memory
-- last
abbrev pub turn_of : ℕ → ℕ → ℕ
turn_of t i = if nat_lt t 1024 then (if i == 4 then 0 else if i == 5 then 1 else if i == 0 then 5 else i + 1) else i

abbrev pub key_rank : ℕ → ℕ → ℕ
key_rank t i = 2048 * t + turn_of t i + 1

-- ---- ports

-- which kind of port has a name that begins with these two bytes, by the order of a leaf's ports, and whether a third
-- number follows
abbrev pub port_code : ℕ → ℕ → Bool → ℕ
port_code a b third =
    if a == 111 then (if b == 118 then 1 else if b == 97 then 2 else if b == 112 then 3 else if b == 108 then 4 else 0)
    else if a == 104 then (if b == 114 then 5 else 0)
    else if a == 114 then (if b == 100 then 6 else 0)
    else if a == 100 then (if b == 114 then 7 else 0)
    else if a == 101 then (if b == 118 then 8 else if b == 104 then 9 else if b == 116 then 10 else if b == 112 then 11 else 0)
    else if a == 108 then (if b == 105 then 12 else if b == 111 then 13 else 0)
    else if a == 99 then (if b == 105 then (if third then 16 else 14) else if b == 111 then (if third then 17 else 15) else 0)
    else 0

-- the place of a port among the ports of a leaf, by its code and number: those of attachments, then those of links
abbrev pub place_by : ℕ → ℕ → ℕ
place_by code number = if nat_lt code 12 then 32 * number + code else 4096 + (32 * number + code)

-- the rank of an output port: those of links, then those of attachments
abbrev pub out_by : ℕ → ℕ → ℕ
out_by code number =
    if code == 13 then 16777216 + (32 * number + 13)
    else if code == 15 then 16777216 + (32 * number + 15)
    else if code == 17 then 16777216 + (32 * number + 17)
    else if code == 8 then 16777216 + (4096 + (32 * number + 8))
    else if code == 9 then 16777216 + (4096 + (32 * number + 9))
    else if code == 10 then 16777216 + (4096 + (32 * number + 10))
    else if code == 11 then 16777216 + (4096 + (32 * number + 11))
    else if code == 7 then 16777216 + (4096 + (32 * number + 12))
    else if code == 6 then 16777216 + (4096 + (32 * number + 13))
    else 0

abbrev pub is_more : List ℕ → Bool
is_more [] = false
is_more (b ∷ bs) = true

abbrev pub second_number : List ℕ → ℕ
second_number bs = digits_value 10 (upto (behind bs))

abbrev pub out_of : ℕ → List ℕ → ℕ
out_of a [] = 0
out_of a (b ∷ []) = 0
out_of a (b ∷ c ∷ bs) = out_by (port_code a b (is_more (behind (behind bs)))) (second_number bs)

-- the place of a port
unfoldable pub place : Name → ℕ
place [] = 0
place (a ∷ []) = 0
place (a ∷ b ∷ []) = 0
place (a ∷ b ∷ c ∷ bs) = place_by (port_code a b (is_more (behind (behind bs)))) (second_number bs)

abbrev pub out_rank : Name → ℕ
out_rank [] = 0
out_rank (b ∷ bs) = out_of b bs

-- of an own name, which has a digit behind its letter, by its tag and number; 0 of an input port
unfoldable pub rank : Name → ℕ
rank n = if digit_second n then key_rank (read_tag n) (read_number n) else out_rank n

-- two numbers
pair-read : (n d : ℕ) → n < 2 ^ 64 → d < 2 ^ 64 → (second_number (decimal n ++ (95 ∷ (decimal d ++ []))) ≡ d) × (is_more (behind (behind (decimal n ++ (95 ∷ (decimal d ++ []))))) ≡ false)
pair-read n d small few =
    let first = decimal_is_IsNumeral n small in
    let second = decimal_is_IsNumeral d few in
    let split = upto-digits (decimal n) (decimal d ++ []) first.0.1 in
    (ap (λ z. digits_value 10 (upto z)) split.1 ∙ ap (digits_value 10) (upto-last (decimal d) second.0.1) ∙ second.1, ap (λ z. is_more (behind z)) split.1 ∙ ap is_more (behind-last (decimal d) second.0.1))

-- three, the last of them 1
triple-read : (n d : ℕ) → n < 2 ^ 64 → d < 2 ^ 64
    → (second_number (decimal n ++ (95 ∷ (decimal d ++ (95 ∷ (decimal 1 ++ []))))) ≡ d) × (is_more (behind (behind (decimal n ++ (95 ∷ (decimal d ++ (95 ∷ (decimal 1 ++ []))))))) ≡ true)
triple-read n d small few =
    let first = decimal_is_IsNumeral n small in
    let second = decimal_is_IsNumeral d few in
    let last = decimal_is_IsNumeral 1 (omega arith) in
    let split = upto-digits (decimal n) (decimal d ++ (95 ∷ (decimal 1 ++ []))) first.0.1 in
    let next = upto-digits (decimal d) (decimal 1 ++ []) second.0.1 in
    (ap (λ z. digits_value 10 (upto z)) split.1 ∙ ap (digits_value 10) next.0 ∙ second.1, ap (λ z. is_more (behind z)) split.1 ∙ ap is_more next.1 ∙ some (decimal 1) last.0.0)
  where
    some : (ds : List ℕ) → 0 < length ds → is_more (ds ++ []) ≡ true
    some [] h = absurd (omega arith)
    some (d ∷ ds) h = refl

-- the rank and the place of a port of two numbers, and of three
pub two-rank : (a b n d : ℕ) → nat_lt b 58 ≡ false → n < 2 ^ 64 → d < 2 ^ 64 → rank (a ∷ b ∷ 95 ∷ (decimal n ++ (95 ∷ (decimal d ++ [])))) ≡ out_by (port_code a b false) d
unfolding rank
two-rank a b n d other small few = let read = pair-read n d small few in rw (other, read.0, read.1) refl

pub two-place : (a b n d : ℕ) → n < 2 ^ 64 → d < 2 ^ 64 → place (a ∷ b ∷ 95 ∷ (decimal n ++ (95 ∷ (decimal d ++ [])))) ≡ place_by (port_code a b false) d
unfolding place
two-place a b n d small few = let read = pair-read n d small few in rw (read.0, read.1) refl

pub three-rank : (a b n d : ℕ) → nat_lt b 58 ≡ false → n < 2 ^ 64 → d < 2 ^ 64 → rank (a ∷ b ∷ 95 ∷ (decimal n ++ (95 ∷ (decimal d ++ (95 ∷ (decimal 1 ++ [])))))) ≡ out_by (port_code a b true) d
unfolding rank
three-rank a b n d other small few = let read = triple-read n d small few in rw (other, read.0, read.1) refl

pub three-place : (a b n d : ℕ) → n < 2 ^ 64 → d < 2 ^ 64 → place (a ∷ b ∷ 95 ∷ (decimal n ++ (95 ∷ (decimal d ++ (95 ∷ (decimal 1 ++ [])))))) ≡ place_by (port_code a b true) d
unfolding place
three-place a b n d small few = let read = triple-read n d small few in rw (read.0, read.1) refl

-- ---- names of a leaf's own

pub rank-own : (t i : ℕ) → t < 6144 → i < 2 ^ 64 → rank (own t i) ≡ key_rank t i
unfolding rank
rank-own t i small few = let spelled = own-spelled t i small few in rw (spelled.digit, spelled.tag, spelled.number) refl

-- a net or register behind the buffers
pub rank-net : (t i : ℕ) → 1024 ≤ t → t < 6144 → i < 2048 → rank (own t i) ≡ 2048 * t + i + 1
rank-net t i far near few = rank-own t i near (omega arith) ∙ (let late : nat_lt t 1024 ≡ false = grind (arith, nat_tests) in rw late refl)
