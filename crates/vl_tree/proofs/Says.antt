-- Bytes that are these tokens, whatever bytes follow.
use Rattle.std.proofs.Common.{◌≡◌, ℕ, zero, suc, ◌+◌, ◌-◌, ◌<◌, ◌≤◌, ◌^◌, Bool, true, false, cond, eqb, ltb, leb, List, [], ◌∷◌, ◌++◌, length, drop, get_or, Option, Some, None, refl, sym, ap, subst, ◌∙◌, append_assoc, arith}
use Rattle.std.specs.Prelude.{◌&&◌, ◌||◌, not, codes, decimal, bytes_eq}
use Rattle.std.specs.List.{list_all, list_any, AllByRecursion}
use Rattle.std.specs.Char.{digit_value, is_digit, is_ascii_digit}
use Rattle.std.specs.Str.Parse.{digits_value, AllDigits}
use Rattle.std.proofs.lemmas.List.{drop_at, length-append}
use Rattle.std.proofs.lemmas.List.Sums.{take_while-cons}
use Rattle.std.proofs.lemmas.Bool.{lt-ltb, le-leb}
use Rattle.std.proofs.lemmas.Bool.Decides.{nat_tests}
use Rattle.std.proofs.lemmas.Fmt.{decimal_is_IsNumeral, length-decimal-le, first_decimal}
use Rattle.vl_tree.specs.Tokens.{Token, mark, name, plain, sized, Piece, piece, gap, next_is, is_blank, comment_at, is_letter, is_run, is_word, words, is_name, is_name_rest, all_digits, is_plain, is_width, is_value, sized_at, run_of, after_run, run_at, symbol_at, piece_at, tokens_behind, tokens_of, unread_behind, unread}
use Rattle.vl_tree.specs.Spells.{text_of, is_text_byte}
use Rattle.vl_tree.proofs.Lexed.{and_true}
use Rattle.vl_tree.proofs.Single.{bytes_same}

abbrev pub Any : List ℕ → Type 0
Any rest = Unit {0}

-- neither a letter, a digit or an underscore, nor a quote
abbrev pub is_open : ℕ → Bool
is_open b = not (is_run b) && not (eqb b 39)

-- the bytes that may follow a name or a number
abbrev pub Open : List ℕ → Type 0
Open [] = Unit {0}
Open (b ∷ bs) = is_open b ≡ true

pub record Says (C : List ℕ → Type 0) (bytes : List ℕ) (toks : List Token) : Type 0 where
  pub clean : list_all is_text_byte bytes ≡ true
  pub reads : (rest : List ℕ) → C rest → text_of (tokens_of (bytes ++ rest)) ≡ toks ++ text_of (tokens_of rest)
  pub whole : (rest : List ℕ) → C rest → unread (bytes ++ rest) ≡ unread rest

all_append : (p : ℕ → Bool) (a b : List ℕ) → list_all p a ≡ true → list_all p b ≡ true → list_all p (a ++ b) ≡ true
all_append p [] b e f = f
all_append p (x ∷ a) b e f =
    let k = and_true (p x) (list_all p a) e in
    let h : p x ≡ true = k.0 in
    rw h (all_append p a b k.1 f)

pub says_then : {C D : List ℕ → Type 0} {a b : List ℕ} {s t : List Token} → Says C a s → Says D b t
    → ((rest : List ℕ) → D rest → C (b ++ rest)) → Says D (a ++ b) (s ++ t)
says_then {C} {D} {a} {b} {s} {t} p q follows = record {
  clean = all_append is_text_byte a b p.clean q.clean;
  reads = λ rest d. ap (λ bs. text_of (tokens_of bs)) (append_assoc a b rest) ∙ p.reads (b ++ rest) (follows rest d) ∙ ap (λ ts. s ++ ts) (q.reads rest d) ∙ sym (append_assoc s t (text_of (tokens_of rest)));
  whole = λ rest d. ap unread (append_assoc a b rest) ∙ p.whole (b ++ rest) (follows rest d) ∙ q.whole rest d;
}

pub any_then : {D : List ℕ → Type 0} {a b : List ℕ} {s t : List Token} → Says Any a s → Says D b t
    → Says D (a ++ b) (s ++ t)
any_then p q = says_then p q (λ rest d. tt)

-- begins with a byte that may follow a name
abbrev pub Starts : List ℕ → Type 0
Starts [] = ⊥
Starts (b ∷ bs) = is_open b ≡ true

starts_open : (b rest : List ℕ) → Starts b → Open (b ++ rest)
starts_open [] rest s = absurd s
starts_open (c ∷ cs) rest s = s

pub open_then : {D : List ℕ → Type 0} {a b : List ℕ} {s t : List Token} → Says Open a s → Starts b → Says D b t
    → Says D (a ++ b) (s ++ t)
open_then {b = b} p s q = says_then p q (λ rest d. starts_open b rest s)

pub loosen : {a : List ℕ} {s : List Token} → Says Any a s → Says Open a s
loosen p = record { clean = p.clean; reads = λ rest d. p.reads rest tt; whole = λ rest d. p.whole rest tt }

-- ---- one piece

pub behind_drop : (k : ℕ) (bs : List ℕ) → tokens_behind k bs ≡ tokens_behind 0 (drop k bs)
unfolding tokens_behind
behind_drop zero bs = refl
behind_drop (suc k) [] = refl
behind_drop (suc k) (b ∷ bs) = behind_drop k bs

pub unread_drop : (k : ℕ) (bs : List ℕ) → unread_behind k bs ≡ unread_behind 0 (drop k bs)
unfolding unread_behind
unread_drop zero bs = refl
unread_drop (suc k) [] = refl
unread_drop (suc k) (b ∷ bs) = unread_drop k bs

drop_front : (a rest : List ℕ) → drop (length a) (a ++ rest) ≡ rest
drop_front a rest = drop_at a rest (length a) refl

pub piece_says : (C : List ℕ → Type 0) (b : ℕ) (bs : List ℕ) (t : Token) → list_all is_text_byte (b ∷ bs) ≡ true
    → ((rest : List ℕ) → C rest → piece_at (b ∷ (bs ++ rest)) ≡ piece t (length bs + 1)) → Says C (b ∷ bs) (t ∷ [])
unfolding tokens_behind unread_behind
piece_says C b bs t clean is =
    let back : length bs + 1 - 1 ≡ length bs = omega arith in
    record {
      clean = clean;
      reads = λ rest d.
          let h = is rest d in
          rw (h, back, behind_drop (length bs) (bs ++ rest), drop_front bs rest) refl;
      whole = λ rest d.
          let h = is rest d in
          rw (h, back, unread_drop (length bs) (bs ++ rest), drop_front bs rest) refl;
    }

-- ---- bytes of runs

true_not_false : {P : Type 0} → true ≡ false → P
true_not_false e = absurd (cc e)

not_false : (b : Bool) → not b ≡ true → b ≡ false
not_false true e = absurd cc
not_false false e = refl

letter_run : (b : ℕ) → is_letter b ≡ true → is_run b ≡ true
letter_run b e = rw e refl

letter_at : (b : ℕ) → is_letter b ≡ true → (is_blank b ≡ false) × (eqb b 47 ≡ false) × (is_text_byte b ≡ true)
letter_at b e = (grind (arith, nat_tests), grind (arith, nat_tests), grind (arith, nat_tests))

digit_range : (d : ℕ) → digit_value d < 10 → (48 ≤ d) × (d ≤ 57)
digit_range d h = (grind (arith, nat_tests), grind (arith, nat_tests))

digit_at : (d : ℕ) → digit_value d < 10
    → (is_blank d ≡ false) × (eqb d 47 ≡ false) × (is_text_byte d ≡ true) × (is_run d ≡ true) × (is_letter d ≡ false)
digit_at d h =
    let r = digit_range d h in
    (grind (arith, nat_tests), grind (arith, nat_tests), grind (arith, nat_tests), grind (arith, nat_tests), grind (arith, nat_tests))

run_text : (b : ℕ) → is_run b ≡ true → is_text_byte b ≡ true
run_text b e = grind (arith, nat_tests)

runs_text : (bs : List ℕ) → list_all is_run bs ≡ true → list_all is_text_byte bs ≡ true
runs_text [] e = refl
runs_text (b ∷ bs) e =
    let k = and_true (is_run b) (list_all is_run bs) e in
    let h = run_text b k.0 in
    rw h (runs_text bs k.1)

open_not_run : (b : ℕ) → is_open b ≡ true → (is_run b ≡ false) × (eqb b 39 ≡ false)
open_not_run b e =
    let k = and_true (not (is_run b)) (not (eqb b 39)) e in
    (not_false (is_run b) k.0, not_false (eqb b 39) k.1)

run_front : (a rest : List ℕ) → list_all is_run a ≡ true → Open rest → run_of (a ++ rest) ≡ a
run_front [] [] e o = refl
run_front [] (c ∷ cs) e o = let h = (open_not_run c o).0 in take_while-cons is_run c cs ∙ rw h refl
run_front (x ∷ a) rest e o =
    let k = and_true (is_run x) (list_all is_run a) e in
    let h = k.0 in
    take_while-cons is_run x (a ++ rest) ∙ rw h (ap (λ bs. x ∷ bs) (run_front a rest k.1 o))

after_front : (a rest : List ℕ) → list_all is_run a ≡ true → Open rest → after_run (a ++ rest) ≡ rest
after_front a rest e o = rw (run_front a rest e o) (drop_front a rest)

no_quote : (rest : List ℕ) → Open rest → next_is 39 rest ≡ false
no_quote [] o = refl
no_quote (c ∷ cs) o = (open_not_run c o).1

-- what holds of each of these texts holds of one that is among them
among : (r : List ℕ) (ws : List (List ℕ)) (P : List ℕ → Type 0) → AllByRecursion P ws → list_any (bytes_eq r) ws ≡ true
    → P r
among r [] P all e = absurd cc
among r (w ∷ ws) P all e =
    elim (bytes_eq r w) as (λ t. bytes_eq r w ≡ t → (t || list_any (bytes_eq r) ws) ≡ true → P r) [
      | true ↦ λ is _. subst P (sym (bytes_same r w is)) all.0
      | false ↦ λ is h. among r ws P all.1 h
    ] refl e

-- no word is a name, and none is a number
abbrev IsWordText : List ℕ → Type 0
IsWordText w = (is_name w ≡ false) × (all_digits 10 w ≡ false)

word_is : (r : List ℕ) → is_word r ≡ true → IsWordText r
word_is r e =
    among r words IsWordText ((refl, refl), ((refl, refl), ((refl, refl), ((refl, refl), ((refl, refl), ((refl, refl), ((refl, refl), ((refl, refl), ((refl, refl), ((refl, refl), ((refl, refl), ((refl, refl), ((refl, refl), ((refl, refl), tt)))))))))))))) e

name_no_word : (r : List ℕ) → is_name r ≡ true → is_word r ≡ false
name_no_word r e = elim (is_word r) as (λ t. is_word r ≡ t → t ≡ false) [ true ↦ λ is. let k = (word_is r is).0 in true_not_false (sym e ∙ k) | false ↦ λ is. refl ] refl

digits_no_word : (r : List ℕ) → all_digits 10 r ≡ true → is_word r ≡ false
digits_no_word r e = elim (is_word r) as (λ t. is_word r ≡ t → t ≡ false) [ true ↦ λ is. let k = (word_is r is).1 in true_not_false (sym e ∙ k) | false ↦ λ is. refl ] refl

-- ---- names

name_runs : (b : ℕ) (bs : List ℕ) → is_name (b ∷ bs) ≡ true → (is_letter b ≡ true) × (list_all is_run bs ≡ true)
name_runs b bs e =
    let k4 = and_true (is_letter b) (is_name_rest bs) e in
    let k3 =
    and_true (list_all is_run bs && ltb (length bs) 64 && list_any (λ c. eqb c 95) bs) (list_any is_ascii_digit bs) k4.1 in
    let k2 = and_true (list_all is_run bs && ltb (length bs) 64) (list_any (λ c. eqb c 95) bs) k3.0 in
    let k1 = and_true (list_all is_run bs) (ltb (length bs) 64) k2.0 in
    (k4.0, k1.0)

third : (x y z : Bool) (p q r s : Option Piece) → x ≡ false → y ≡ false → z ≡ true
    → cond x p (cond y q (cond z r s)) ≡ r
third x y z p q r s e f g = rw (e, f, g) refl

run_piece : (b : ℕ) (bs rest : List ℕ) → is_blank b ≡ false → eqb b 47 ≡ false → list_all is_run (b ∷ bs) ≡ true
    → Open rest → piece_at (b ∷ (bs ++ rest)) ≡ run_at (b ∷ bs) rest
unfolding piece_at
run_piece b bs rest blank slash runs o =
    let r = (and_true (is_run b) (list_all is_run bs) runs).0 in
    let front : run_of (b ∷ (bs ++ rest)) ≡ b ∷ bs = run_front (b ∷ bs) rest runs o in
    let after : after_run (b ∷ (bs ++ rest)) ≡ rest = after_front (b ∷ bs) rest runs o in
    third (is_blank b) (eqb b 47) (is_run b) (Some (gap 1)) (comment_at (bs ++ rest)) (run_at (run_of (b ∷ (bs ++ rest))) (after_run (b ∷ (bs ++ rest)))) (symbol_at b (bs ++ rest)) blank slash r
    ∙ ap (λ x. run_at x (after_run (b ∷ (bs ++ rest)))) front ∙ ap (run_at (b ∷ bs)) after

named : (w n : Bool) (p q r : Option Piece) → w ≡ false → n ≡ true → cond w p (cond n q r) ≡ q
named w n p q r e f = rw (e, f) refl

pub name_says : (n : List ℕ) → is_name n ≡ true → Says Open n (name n ∷ [])
name_says [] e = absurd cc
name_says (b ∷ bs) e =
    let k = name_runs b bs e in
    let l = letter_at b k.0 in
    let runs : list_all is_run (b ∷ bs) ≡ true = let h = letter_run b k.0 in rw h k.1 in
    piece_says Open b bs (name (b ∷ bs)) (runs_text (b ∷ bs) runs) (λ rest o.
    let w = name_no_word (b ∷ bs) e in
    let count : length (b ∷ bs) ≡ length bs + 1 = omega arith in
    run_piece b bs rest l.0 l.1 runs o ∙ named (is_word (b ∷ bs)) (is_name (b ∷ bs)) (piece (mark (b ∷ bs)) (length (b ∷ bs))) (piece (name (b ∷ bs)) (length (b ∷ bs))) (cond (next_is 39 rest) (sized_at (b ∷ bs) (run_of (drop 1 rest)) (after_run (drop 1 rest))) (cond (is_plain (b ∷ bs)) (piece (plain (digits_value 10 (b ∷ bs))) (length (b ∷ bs))) None)) w e ∙ ap (piece (name (b ∷ bs))) count)

-- ---- numbers

digits_runs : (ds : List ℕ) → AllDigits 10 ds → (list_all is_run ds ≡ true) × (all_digits 10 ds ≡ true)
digits_runs [] h = (refl, refl)
digits_runs (d ∷ ds) h =
    let k = digit_at d h.0 in
    let more = digits_runs ds h.1 in
    let run : is_run d ≡ true = k.3 in
    let digit : is_digit d 10 ≡ true = lt-ltb (digit_value d) 10 h.0 in
    (rw run more.0, rw digit more.1)

no_name : (d : ℕ) (ds : List ℕ) → is_letter d ≡ false → is_name (d ∷ ds) ≡ false
no_name d ds e = rw e refl

fourth : (w n q v : Bool) (a b c d e : Option Piece) → w ≡ false → n ≡ false → q ≡ false → v ≡ true
    → cond w a (cond n b (cond q c (cond v d e))) ≡ d
fourth w n q v a b c d e f g h i = rw (f, g, h, i) refl

three : (a b c : Bool) → a ≡ true → b ≡ true → c ≡ true → (a && b && c) ≡ true
three a b c e f g = rw (e, f, g) refl

plain_says_of : (ds : List ℕ) (v : ℕ) → 0 < length ds → length ds ≤ 9 → AllDigits 10 ds → digits_value 10 ds ≡ v
    → Says Open ds (plain v ∷ [])
plain_says_of [] v some short all is = absurd (omega arith)
plain_says_of (d ∷ ds) v some short all is =
    let k = digit_at d all.0 in
    let r = digits_runs (d ∷ ds) all in
    let count : length (d ∷ ds) ≡ length ds + 1 = omega arith in
    let some' : ltb 0 (length (d ∷ ds)) ≡ true = lt-ltb 0 (length (d ∷ ds)) some in
    let short' : ltb (length (d ∷ ds)) 10 ≡ true = lt-ltb (length (d ∷ ds)) 10 (omega arith) in
    let all' : all_digits 10 (d ∷ ds) ≡ true = r.1 in
    let plain' : is_plain (d ∷ ds) ≡ true =
    three (all_digits 10 (d ∷ ds)) (ltb 0 (length (d ∷ ds))) (ltb (length (d ∷ ds)) 10) all' some' short' in
    piece_says Open d ds (plain v) (runs_text (d ∷ ds) r.0) (λ rest o.
    run_piece d ds rest k.0 k.1 r.0 o
    ∙ fourth (is_word (d ∷ ds)) (is_name (d ∷ ds)) (next_is 39 rest) (is_plain (d ∷ ds)) (piece (mark (d ∷ ds)) (length (d ∷ ds))) (piece (name (d ∷ ds)) (length (d ∷ ds))) (sized_at (d ∷ ds) (run_of (drop 1 rest)) (after_run (drop 1 rest))) (piece (plain (digits_value 10 (d ∷ ds))) (length (d ∷ ds))) None
    (digits_no_word (d ∷ ds) r.1) (no_name d ds k.4) (no_quote rest o) plain'
    ∙ ap (piece (plain (digits_value 10 (d ∷ ds)))) count ∙ ap (λ x. piece (plain x) (length ds + 1)) is)

pub plain_says : (v : ℕ) → v < 10 ^ 9 → Says Open (decimal v) (plain v ∷ [])
plain_says v small =
    let wide : v < 2 ^ 64 = omega arith in
    let n = decimal_is_IsNumeral v wide in
    plain_says_of (decimal v) v n.0.0 (length-decimal-le 9 v (omega arith) small wide) n.0.1 n.1

-- ---- constants

fifth : (w n q : Bool) (a b c d : Option Piece) → w ≡ false → n ≡ false → q ≡ true
    → cond w a (cond n b (cond q c d)) ≡ c
fifth w n q a b c d f g h = rw (f, g, h) refl

sized_is : (b : Bool) (p : Option Piece) → b ≡ true → cond b p None ≡ p
sized_is b p e = rw e refl

two_true : (a b : Bool) → a ≡ true → b ≡ true → (a && b) ≡ true
two_true a b e f = rw (e, f) refl

width_is : (ds : List ℕ) → AllDigits 10 ds → 0 < length ds → length ds ≤ 2 → 48 < get_or ds 0 0
    → digits_value 10 ds ≤ 64 → is_width ds ≡ true
width_is [] all some short first small = absurd (omega arith)
width_is (d ∷ ds) all some short first small =
    let r = (digits_runs (d ∷ ds) all).1 in
    let nonzero : not (eqb d 48) ≡ true = grind (arith, nat_tests) in
    two_true (all_digits 10 (d ∷ ds) && not (eqb d 48) && ltb 0 (length (d ∷ ds)) && ltb (length (d ∷ ds)) 3) (leb (digits_value 10 (d ∷ ds)) 64)
    (two_true (all_digits 10 (d ∷ ds) && not (eqb d 48) && ltb 0 (length (d ∷ ds))) (ltb (length (d ∷ ds)) 3)
    (two_true (all_digits 10 (d ∷ ds) && not (eqb d 48)) (ltb 0 (length (d ∷ ds))) (two_true (all_digits 10 (d ∷ ds)) (not (eqb d 48)) r nonzero) (lt-ltb 0 (length (d ∷ ds)) some))
    (lt-ltb (length (d ∷ ds)) 3 (omega arith)))
    (le-leb (digits_value 10 (d ∷ ds)) 64 small)

value_is : (w : ℕ) (ds : List ℕ) → AllDigits 10 ds → 0 < length ds → length ds ≤ 20 → digits_value 10 ds < 2 ^ w
    → is_value w 10 ds ≡ true
value_is w ds all some short small =
    two_true (all_digits 10 ds && ltb 0 (length ds) && ltb (length ds) 65) (ltb (digits_value 10 ds) (2 ^ w))
    (two_true (all_digits 10 ds && ltb 0 (length ds)) (ltb (length ds) 65) (two_true (all_digits 10 ds) (ltb 0 (length ds)) (digits_runs ds all).1 (lt-ltb 0 (length ds) some)) (lt-ltb (length ds) 65 (omega arith)))
    (lt-ltb (digits_value 10 ds) (2 ^ w) small)

sized_piece : (ws ds rest : List ℕ) → is_width ws ≡ true → is_value (digits_value 10 ws) 10 ds ≡ true
    → sized_at ws (100 ∷ ds) rest ≡ piece (sized (digits_value 10 ws) (digits_value 10 ds)) (length ws + length ds + 2)
sized_piece ws ds rest w v =
    sized_is (is_width ws && is_value (digits_value 10 ws) 10 ds && true) (piece (sized (digits_value 10 ws) (digits_value 10 ds)) (length ws + length ds + 2))
    (two_true (is_width ws && is_value (digits_value 10 ws) 10 ds) true (two_true (is_width ws) (is_value (digits_value 10 ws) 10 ds) w v) refl)

-- a run of digits before a quote
run_quote : (a rest : List ℕ) → list_all is_run a ≡ true → run_of (a ++ (39 ∷ rest)) ≡ a
run_quote [] rest e = refl
run_quote (x ∷ a) rest e =
    let k = and_true (is_run x) (list_all is_run a) e in
    let h = k.0 in
    take_while-cons is_run x (a ++ (39 ∷ rest)) ∙ rw h (ap (λ bs. x ∷ bs) (run_quote a rest k.1))

quoted_piece : (b : ℕ) (bs rest : List ℕ) → is_blank b ≡ false → eqb b 47 ≡ false → list_all is_run (b ∷ bs) ≡ true
    → piece_at (b ∷ (bs ++ (39 ∷ rest))) ≡ run_at (b ∷ bs) (39 ∷ rest)
unfolding piece_at
quoted_piece b bs rest blank slash runs =
    let r = (and_true (is_run b) (list_all is_run bs) runs).0 in
    let front : run_of (b ∷ (bs ++ (39 ∷ rest))) ≡ b ∷ bs = run_quote (b ∷ bs) rest runs in
    let after : after_run (b ∷ (bs ++ (39 ∷ rest))) ≡ 39 ∷ rest = rw front (drop_front (b ∷ bs) (39 ∷ rest)) in
    third (is_blank b) (eqb b 47) (is_run b) (Some (gap 1)) (comment_at (bs ++ (39 ∷ rest))) (run_at (run_of (b ∷ (bs ++ (39 ∷ rest)))) (after_run (b ∷ (bs ++ (39 ∷ rest))))) (symbol_at b (bs ++ (39 ∷ rest))) blank slash r
    ∙ ap (λ x. run_at x (after_run (b ∷ (bs ++ (39 ∷ rest))))) front ∙ ap (run_at (b ∷ bs)) after

sized_says_of : (ws ds : List ℕ) → AllDigits 10 ws → 0 < length ws → AllDigits 10 ds → is_width ws ≡ true
    → is_value (digits_value 10 ws) 10 ds ≡ true
    → Says Open (ws ++ (39 ∷ (100 ∷ ds))) (sized (digits_value 10 ws) (digits_value 10 ds) ∷ [])
sized_says_of [] ds allw some alld width value = absurd (omega arith)
sized_says_of (d ∷ ws) ds allw some alld width value =
    let k = digit_at d allw.0 in
    let r = digits_runs (d ∷ ws) allw in
    let q = digits_runs ds alld in
    let quote : list_all is_text_byte (39 ∷ (100 ∷ ds)) ≡ true = runs_text ds q.0 in
    let behind : list_all is_run (100 ∷ ds) ≡ true = q.0 in
    piece_says Open d (ws ++ (39 ∷ (100 ∷ ds))) (sized (digits_value 10 (d ∷ ws)) (digits_value 10 ds)) (all_append is_text_byte (d ∷ ws) (39 ∷ (100 ∷ ds)) (runs_text (d ∷ ws) r.0) quote) (λ rest o.
    let regroup : d ∷ ((ws ++ (39 ∷ (100 ∷ ds))) ++ rest) ≡ d ∷ (ws ++ (39 ∷ (100 ∷ (ds ++ rest)))) =
    ap (λ bs. d ∷ bs) (append_assoc ws (39 ∷ (100 ∷ ds)) rest) in
    let after : List ℕ = 39 ∷ (100 ∷ (ds ++ rest)) in
    let front : run_of (100 ∷ (ds ++ rest)) ≡ 100 ∷ ds = run_front (100 ∷ ds) rest behind o in
    let last : after_run (100 ∷ (ds ++ rest)) ≡ rest = after_front (100 ∷ ds) rest behind o in
    let count : length (d ∷ ws) + length ds + 2 ≡ length (ws ++ (39 ∷ (100 ∷ ds))) + 1 =
    omega (arith, length-append ws (39 ∷ (100 ∷ ds))) in
    ap piece_at regroup ∙ quoted_piece d ws (100 ∷ (ds ++ rest)) k.0 k.1 r.0
    ∙ fifth (is_word (d ∷ ws)) (is_name (d ∷ ws)) (next_is 39 after) (piece (mark (d ∷ ws)) (length (d ∷ ws))) (piece (name (d ∷ ws)) (length (d ∷ ws))) (sized_at (d ∷ ws) (run_of (100 ∷ (ds ++ rest))) (after_run (100 ∷ (ds ++ rest)))) (cond (is_plain (d ∷ ws)) (piece (plain (digits_value 10 (d ∷ ws))) (length (d ∷ ws))) None)
    (digits_no_word (d ∷ ws) r.1) (no_name d ws k.4) refl
    ∙ ap (λ x. sized_at (d ∷ ws) x (after_run (100 ∷ (ds ++ rest)))) front ∙ ap (sized_at (d ∷ ws) (100 ∷ ds)) last
    ∙ sized_piece (d ∷ ws) ds rest width value ∙ ap (piece (sized (digits_value 10 (d ∷ ws)) (digits_value 10 ds))) count)

pub sized_says : (w v : ℕ) → 0 < w → w ≤ 64 → v < 2 ^ w → v < 2 ^ 64
    → Says Open (decimal w ++ (codes "'d" ++ decimal v)) (sized w v ∷ [])
sized_says w v pos small value wide =
    let ww : w < 2 ^ 64 = omega arith in
    let nw = decimal_is_IsNumeral w ww in
    let nv = decimal_is_IsNumeral v wide in
    let wis : digits_value 10 (decimal w) ≡ w = nw.1 in
    let vis : digits_value 10 (decimal v) ≡ v = nv.1 in
    let width : is_width (decimal w) ≡ true =
    width_is (decimal w) nw.0.1 nw.0.0 (length-decimal-le 2 w (omega arith) (omega arith) ww) (first_decimal w pos ww) (omega (arith, wis)) in
    let below : digits_value 10 (decimal v) < 2 ^ w = omega (arith, vis) in
    let good : is_value (digits_value 10 (decimal w)) 10 (decimal v) ≡ true =
    subst (λ x. is_value x 10 (decimal v) ≡ true) (sym wis) (value_is w (decimal v) nv.0.1 nv.0.0 (length-decimal-le 20 v (omega arith) (omega arith) wide) below) in
    let all = sized_says_of (decimal w) (decimal v) nw.0.1 nw.0.0 nv.0.1 width good in
    subst (λ (x : ℕ). Says Open (decimal w ++ (codes "'d" ++ decimal v)) (sized w x ∷ [])) vis (subst (λ (x : ℕ). Says Open (decimal w ++ (codes "'d" ++ decimal v)) (sized x (digits_value 10 (decimal v)) ∷ [])) wis all)

-- ---- words

worded : (w : Bool) (p q : Option Piece) → w ≡ true → cond w p q ≡ p
worded w p q e = rw e refl

pub word_says : (b : ℕ) (bs : List ℕ) → is_word (b ∷ bs) ≡ true → is_blank b ≡ false → eqb b 47 ≡ false
    → list_all is_run (b ∷ bs) ≡ true → Says Open (b ∷ bs) (mark (b ∷ bs) ∷ [])
word_says b bs word blank slash runs =
    let count : length (b ∷ bs) ≡ length bs + 1 = omega arith in
    piece_says Open b bs (mark (b ∷ bs)) (runs_text (b ∷ bs) runs) (λ rest o.
    run_piece b bs rest blank slash runs o
    ∙ worded (is_word (b ∷ bs)) (piece (mark (b ∷ bs)) (length (b ∷ bs))) (cond (is_name (b ∷ bs)) (piece (name (b ∷ bs)) (length (b ∷ bs))) (cond (next_is 39 rest) (sized_at (b ∷ bs) (run_of (drop 1 rest)) (after_run (drop 1 rest))) (cond (is_plain (b ∷ bs)) (piece (plain (digits_value 10 (b ∷ bs))) (length (b ∷ bs))) None))) word
    ∙ ap (piece (mark (b ∷ bs))) count)
