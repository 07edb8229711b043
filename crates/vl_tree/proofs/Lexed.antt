-- What the tokens of bytes are like.
use Rattle.std.proofs.Common.{◌≡◌, ℕ, zero, suc, ◌+◌, ◌-◌, ◌*◌, ◌<◌, ◌≤◌, ◌^◌, Bool, true, false, cond, eqb, ltb, leb, List, [], ◌∷◌, ◌++◌, length, drop, Option, Some, None, refl, sym, subst, arith}
use Rattle.std.specs.Prelude.{◌&&◌, ◌||◌, not, option_map, take_while, codes, bytes_eq}
use Rattle.std.specs.List.{list_any, AllByRecursion}
use Rattle.std.specs.Char.{digit_value, is_digit}
use Rattle.std.specs.Str.Parse.{digits_value, digits_value_after, AllDigits}
use Rattle.std.proofs.lemmas.Bool.Decides.{nat_tests}
use Rattle.std.proofs.lemmas.Bool.{ltb-true, leb-true, eqb-true}
use Rattle.std.proofs.lemmas.Int.Digits.{digits_value-lt}
use Rattle.std.proofs.Math.Nat.{pow-le-pow_right}
use Rattle.vl_tree.specs.Tokens.{Token, mark, name, plain, sized, Piece, piece, gap, next_is, is_blank, to_close, comment_at, is_run, is_word, is_name, all_digits, is_plain, is_width, base_of, is_value, sized_at, run_of, after_run, run_at, is_symbol, symbol_at, piece_at, Placed, with_token, pieced, tokens_behind, tokens_of, IsToken, AreTokens, Holds, symbols, is_mark_text}
use Rattle.vl_tree.specs.Spells.{text_of}

pub and_true : (a b : Bool) → (a && b) ≡ true → (a ≡ true) × (b ≡ true)
and_true true b e = (refl, e)
and_true false b e = absurd cc

-- ---- digits

pub digits_all : (base : ℕ) (ds : List ℕ) → all_digits base ds ≡ true → AllDigits base ds
digits_all base [] e = tt
digits_all base (d ∷ ds) e =
    let k = and_true (is_digit d base) (all_digits base ds) e in
    (ltb-true (digit_value d) base k.0, digits_all base ds k.1)

pub value_from : (n : ℕ) (ds : List ℕ) → n ≤ digits_value_after 10 n ds
value_from n [] = omega arith
value_from n (d ∷ ds) = omega (arith, value_from (n * 10 + digit_value d) ds)

digit_above : (d : ℕ) → digit_value d < 10 → eqb d 48 ≡ false → 0 < digit_value d
digit_above d h e = grind (arith, nat_tests)

-- ---- each token can stand in a text

abbrev RightToken : Option Token → Type 0
RightToken None = Unit {0}
RightToken (Some t) = IsToken t

abbrev RightPiece : Option Piece → Type 0
RightPiece None = Unit {0}
RightPiece (Some p) = RightToken p.token

one_right : (b : Bool) (x y : Option Piece) → (b ≡ true → RightPiece x) → (b ≡ false → RightPiece y)
    → RightPiece (cond b x y)
one_right true x y f g = f refl
one_right false x y f g = g refl

gap_right : (o : Option ℕ) → RightPiece (option_map (λ n. gap (n + 2)) o)
gap_right None = tt
gap_right (Some n) = tt

plain_right : (r : List ℕ) → is_plain r ≡ true → digits_value 10 r < 10 ^ 9
plain_right r e =
    let k = and_true (all_digits 10 r && ltb 0 (length r)) (ltb (length r) 10) e in
    let j = and_true (all_digits 10 r) (ltb 0 (length r)) k.0 in
    let short : length r ≤ 9 = omega (arith, ltb-true (length r) 10 k.1) in
    let ten : 0 < 10 = omega arith in
    omega (arith, digits_value-lt 10 r (digits_all 10 r j.0), pow-le-pow_right ten short)

not_false : (b : Bool) → not b ≡ true → b ≡ false
not_false true e = absurd cc
not_false false e = refl

width_right : (r : List ℕ) → is_width r ≡ true → (0 < digits_value 10 r) × (digits_value 10 r ≤ 64)
width_right [] e = absurd cc
width_right (d ∷ ds) e =
    let k4 =
    and_true (all_digits 10 (d ∷ ds) && not (next_is 48 (d ∷ ds)) && ltb 0 (length (d ∷ ds)) && ltb (length (d ∷ ds)) 3) (leb (digits_value 10 (d ∷ ds)) 64) e in
    let k3 =
    and_true (all_digits 10 (d ∷ ds) && not (next_is 48 (d ∷ ds)) && ltb 0 (length (d ∷ ds))) (ltb (length (d ∷ ds)) 3) k4.0 in
    let k2 = and_true (all_digits 10 (d ∷ ds) && not (next_is 48 (d ∷ ds))) (ltb 0 (length (d ∷ ds))) k3.0 in
    let k1 = and_true (all_digits 10 (d ∷ ds)) (not (next_is 48 (d ∷ ds))) k2.0 in
    let all = digits_all 10 (d ∷ ds) k1.0 in
    let above = digit_above d all.0 (not_false (eqb d 48) k1.1) in
    (omega (arith, value_from (0 * 10 + digit_value d) ds), leb-true (digits_value 10 (d ∷ ds)) 64 k4.1)

sized_right : (w r after : List ℕ) → RightPiece (sized_at w r after)
sized_right w [] after = tt
sized_right w (b ∷ ds) after =
    one_right (is_width w && is_value (digits_value 10 w) (base_of b) ds && (eqb b 100 || not (next_is 63 after))) (piece (sized (digits_value 10 w) (digits_value (base_of b) ds)) (length w + length ds + 2)) None
    (λ e.
    let k2 =
    and_true (is_width w && is_value (digits_value 10 w) (base_of b) ds) (eqb b 100 || not (next_is 63 after)) e in
    let k1 = and_true (is_width w) (is_value (digits_value 10 w) (base_of b) ds) k2.0 in
    let k0 =
    and_true (all_digits (base_of b) ds && ltb 0 (length ds) && ltb (length ds) 65) (ltb (digits_value (base_of b) ds) (2 ^ digits_value 10 w)) k1.1 in
    let width = width_right w k1.0 in
    (width.0, width.1, ltb-true (digits_value (base_of b) ds) (2 ^ digits_value 10 w) k0.1))
    (λ e. tt)

any_right : (a b : Bool) → a ≡ true → Holds (a || b)
any_right true b e = tt
any_right false b e = absurd cc

word_right : (r : List ℕ) → is_word r ≡ true → Holds (is_mark_text r)
word_right r e = any_right (is_word r) (list_any (bytes_eq r) symbols) e

run_right : (r after : List ℕ) → RightPiece (run_at r after)
run_right r after =
    one_right (is_word r) (piece (mark r) (length r)) (cond (is_name r) (piece (name r) (length r)) (cond (next_is 39 after) (sized_at r (run_of (drop 1 after)) (after_run (drop 1 after))) (cond (is_plain r) (piece (plain (digits_value 10 r)) (length r)) None))) (word_right r)
    (λ e. one_right (is_name r) (piece (name r) (length r)) (cond (next_is 39 after) (sized_at r (run_of (drop 1 after)) (after_run (drop 1 after))) (cond (is_plain r) (piece (plain (digits_value 10 r)) (length r)) None)) (λ e. e)
    (λ e. one_right (next_is 39 after) (sized_at r (run_of (drop 1 after)) (after_run (drop 1 after))) (cond (is_plain r) (piece (plain (digits_value 10 r)) (length r)) None) (λ e. sized_right r (run_of (drop 1 after)) (after_run (drop 1 after)))
    (λ e. one_right (is_plain r) (piece (plain (digits_value 10 r)) (length r)) None (plain_right r) (λ e. tt))))

-- a test of a byte that some of these pass
passes_one : (b : ℕ) (cs : List ℕ) (P : ℕ → Type 0) → AllByRecursion P cs → list_any (λ c. eqb c b) cs ≡ true → P b
passes_one b [] P all e = absurd cc
passes_one b (c ∷ cs) P all e =
    elim (eqb c b) as (λ t. eqb c b ≡ t → (t || list_any (λ c. eqb c b) cs) ≡ true → P b) [
      | true ↦ λ is _. subst P (eqb-true c b is) all.0
      | false ↦ λ is h. passes_one b cs P all.1 h
    ] refl e

symbol_known : (b : ℕ) → is_symbol b ≡ true → Holds (is_mark_text (b ∷ []))
symbol_known b e = passes_one b (codes "()[]{};:,.@+-&|^~?<=") (λ c. Holds (is_mark_text (c ∷ [])))
    (tt, (tt, (tt, (tt, (tt, (tt, (tt, (tt, (tt, (tt, (tt, (tt, (tt, (tt, (tt, (tt, (tt, (tt, (tt, (tt, tt)))))))))))))))))))) e

double_known : (b : ℕ) (q : Bool) → ((eqb b 60 || eqb b 61) && q) ≡ true → Holds (is_mark_text (b ∷ 61 ∷ []))
double_known b q e =
    elim (eqb b 60) as (λ t. eqb b 60 ≡ t → ((t || eqb b 61) && q) ≡ true → Holds (is_mark_text (b ∷ 61 ∷ []))) [
      | true ↦ λ is _. subst (λ c. Holds (is_mark_text (c ∷ 61 ∷ []))) (sym (eqb-true b 60 is)) tt
      | false ↦ λ is h. subst (λ c. Holds (is_mark_text (c ∷ 61 ∷ []))) (sym (eqb-true b 61 (and_true (eqb b 61) q h).0)) tt
    ] refl e

symbol_right : (b : ℕ) (bs : List ℕ) → RightPiece (symbol_at b bs)
symbol_right b bs =
    one_right ((eqb b 60 || eqb b 61) && next_is 61 bs) (piece (mark (b ∷ 61 ∷ [])) 2) (cond (is_symbol b) (piece (mark (b ∷ [])) 1) None) (double_known b (next_is 61 bs))
    (λ e. one_right (is_symbol b) (piece (mark (b ∷ [])) 1) None (symbol_known b) (λ e. tt))

comment_right : (bs : List ℕ) → RightPiece (comment_at bs)
comment_right bs =
    one_right (next_is 47 bs) (Some (gap (length (take_while (λ c. not (eqb c 10)) bs) + 1))) (cond (next_is 42 bs) (option_map (λ n. gap (n + 2)) (to_close (drop 1 bs))) None) (λ e. tt)
    (λ e. one_right (next_is 42 bs) (option_map (λ n. gap (n + 2)) (to_close (drop 1 bs))) None (λ e. gap_right (to_close (drop 1 bs))) (λ e. tt))

pub piece_right : (bs : List ℕ) → RightPiece (piece_at bs)
unfolding piece_at
piece_right [] = tt
piece_right (b ∷ bs) =
    one_right (is_blank b) (Some (gap 1)) (cond (eqb b 47) (comment_at bs) (cond (is_run b) (run_at (run_of (b ∷ bs)) (after_run (b ∷ bs))) (symbol_at b bs))) (λ e. tt)
    (λ e. one_right (eqb b 47) (comment_at bs) (cond (is_run b) (run_at (run_of (b ∷ bs)) (after_run (b ∷ bs))) (symbol_at b bs)) (λ e. comment_right bs)
    (λ e. one_right (is_run b) (run_at (run_of (b ∷ bs)) (after_run (b ∷ bs))) (symbol_at b bs) (λ e. run_right (run_of (b ∷ bs)) (after_run (b ∷ bs))) (λ e. symbol_right b bs)))

pieced_right : (o : Option Piece) (n : ℕ) (rest : ℕ → List Placed) → RightPiece o
    → ((k : ℕ) → AreTokens (text_of (rest k))) → AreTokens (text_of (pieced o n rest))
pieced_right None n rest r h = tt
pieced_right (Some p) n rest r h =
    elim p.token as (λ t. RightToken t → AreTokens (text_of (with_token t n (rest (p.len - 1))))) [
      | None ↦ λ _. h (p.len - 1)
      | Some t ↦ λ right. (right, h (p.len - 1))
    ] r

behind_right : (bytes : List ℕ) (k : ℕ) → AreTokens (text_of (tokens_behind k bytes))
unfolding tokens_behind
behind_right [] k = tt
behind_right (b ∷ bs) zero =
    pieced_right (piece_at (b ∷ bs)) (length bs + 1) (λ k. tokens_behind k bs) (piece_right (b ∷ bs)) (behind_right bs)
behind_right (b ∷ bs) (suc k) = behind_right bs k

pub tokens_right : (bytes : List ℕ) → AreTokens (text_of (tokens_of bytes))
tokens_right bytes = behind_right bytes 0

-- ---- each token begins within the text

abbrev AreWithin : ℕ → List Placed → Type 0
AreWithin n ts = AllByRecursion (λ t. t.left ≤ n) ts

within_more : (m n : ℕ) (ts : List Placed) → m ≤ n → AreWithin m ts → AreWithin n ts
within_more m n [] l h = tt
within_more m n (t ∷ ts) l h = (omega (arith, h.0), within_more m n ts l h.1)

pieced_within : (o : Option Piece) (n : ℕ) (rest : ℕ → List Placed) → ((k : ℕ) → AreWithin n (rest k))
    → AreWithin n (pieced o n rest)
pieced_within None n rest h = tt
pieced_within (Some p) n rest h =
    elim p.token as (λ t. AreWithin n (with_token t n (rest (p.len - 1)))) [ None ↦ h (p.len - 1) | Some t ↦ (omega arith, h (p.len - 1)) ]

behind_within : (bytes : List ℕ) (k : ℕ) → AreWithin (length bytes) (tokens_behind k bytes)
unfolding tokens_behind
behind_within [] k = tt
behind_within (b ∷ bs) zero =
    let n : ℕ = length bs + 1 in
    let all : AreWithin n (pieced (piece_at (b ∷ bs)) n (λ k. tokens_behind k bs)) =
    pieced_within (piece_at (b ∷ bs)) n (λ k. tokens_behind k bs) (λ k. within_more (length bs) n (tokens_behind k bs) (omega arith) (behind_within bs k)) in
    within_more n (length (b ∷ bs)) (pieced (piece_at (b ∷ bs)) n (λ k. tokens_behind k bs)) (omega arith) all
behind_within (b ∷ bs) (suc k) =
    within_more (length bs) (length (b ∷ bs)) (tokens_behind k bs) (omega arith) (behind_within bs k)

pub tokens_within : (bytes : List ℕ) → AreWithin (length bytes) (tokens_of bytes)
tokens_within bytes = behind_within bytes 0

pub within_rest : (n : ℕ) (front rest : List Placed) → AreWithin n (front ++ rest) → AreWithin n rest
within_rest n [] rest h = h
within_rest n (t ∷ front) rest h = within_rest n front rest h.1
