-- The piece at the front of a text, and how long it is.
use Rattle.std.proofs.Common.{◌≡◌, ℕ, suc, ◌+◌, ◌<◌, ◌≤◌, Bool, true, false, cond, eqb, List, [], ◌∷◌, length, get_or, take, drop, Option, Some, None, refl, sym, ap, subst, arith}
use Rattle.std.specs.Prelude.{not, ◌&&◌, ◌||◌, option_map, IfSome}
use Rattle.std.specs.List.{prefix_len}
use Rattle.std.proofs.lemmas.List.{length-drop}
use Rattle.std.proofs.lemmas.List.Folds.{length-prefix_len}
use Rattle.std.proofs.lemmas.List.Sums.{prefix_len-le-length}
use Rattle.vl_tree.specs.Tokens as tokens
use Rattle.vl_tree.specs.Tokens.{mark, name, plain, sized, piece, gap, next_is, is_blank, to_close, comment_at, is_run, is_word, is_name, is_plain, is_width, is_value, base_of, sized_at, run_of, after_run, run_at, is_symbol, symbol_at, piece_at}
use Rattle.vl_tree.proofs.Lexed.{and_true}
use Rattle.std.specs.Str.Parse.{digits_value}
use Rattle.vl_read.specs.declared.piece.Piece.{Piece}
use Rattle.vl_read.specs.View.{piece_of}

-- ---- which piece it is

pub piece_none : (bs : List ℕ) → length bs ≡ 0 → None ≡ piece_at bs
unfolding piece_at
piece_none [] h = refl
piece_none (b ∷ bs) h = absurd (omega arith)

pub blank_piece : (bs : List ℕ) → 0 < length bs → is_blank (get_or bs 0 0) ≡ true → Some (gap 1) ≡ piece_at bs
unfolding piece_at
blank_piece [] h e = absurd (omega arith)
blank_piece (b ∷ bs) h e = rw e refl

pub comment_piece : (bs : List ℕ) → 0 < length bs → is_blank (get_or bs 0 0) ≡ false → get_or bs 0 0 ≡ 47
    → comment_at (drop 1 bs) ≡ piece_at bs
unfolding piece_at
comment_piece [] h e f = absurd (omega arith)
comment_piece (b ∷ bs) h e f = let g : eqb b 47 ≡ true = rw f refl in rw (e, g) refl

pub run_piece : (bs : List ℕ) → 0 < length bs → is_blank (get_or bs 0 0) ≡ false → eqb (get_or bs 0 0) 47 ≡ false
    → is_run (get_or bs 0 0) ≡ true → run_at (run_of bs) (after_run bs) ≡ piece_at bs
unfolding piece_at
run_piece [] h e f g = absurd (omega arith)
run_piece (b ∷ bs) h e f g = rw (e, f, g) refl

pub symbol_piece : (bs : List ℕ) → 0 < length bs → is_blank (get_or bs 0 0) ≡ false → eqb (get_or bs 0 0) 47 ≡ false
    → is_run (get_or bs 0 0) ≡ false → symbol_at (get_or bs 0 0) (drop 1 bs) ≡ piece_at bs
unfolding piece_at
symbol_piece [] h e f g = absurd (omega arith)
symbol_piece (b ∷ bs) h e f g = rw (e, f, g) refl

pub after_is : (bs : List ℕ) → after_run bs ≡ drop (prefix_len is_run bs) bs
after_is bs = ap (λ n. drop n bs) (length-prefix_len is_run bs)

-- ---- how long it is

abbrev IsWithin : ℕ → Option tokens.Piece → Type 0
IsWithin n None = Unit {0}
IsWithin n (Some p) = (0 < p.len) × (p.len ≤ n)

one_within : (n : ℕ) (b : Bool) (x y : Option tokens.Piece) → (b ≡ true → IsWithin n x) → (b ≡ false → IsWithin n y)
    → IsWithin n (cond b x y)
one_within n true x y f g = f refl
one_within n false x y f g = g refl

next_some : (b : ℕ) (bs : List ℕ) → next_is b bs ≡ true → 0 < length bs
next_some b [] e = absurd cc
next_some b (c ∷ cs) e = omega arith

abbrev AtMost : ℕ → Option ℕ → Type 0
AtMost n None = Unit {0}
AtMost n (Some m) = m ≤ n

one_more : (n : ℕ) (o : Option ℕ) → AtMost n o → AtMost (suc n) (option_map suc o)
one_more n None h = tt
one_more n (Some m) h = omega arith

close_within : (bs : List ℕ) → AtMost (length bs) (to_close bs)
close_within [] = tt
close_within (b ∷ bs) =
    elim (eqb b 42 && next_is 47 bs) as (λ t. (eqb b 42 && next_is 47 bs) ≡ t → AtMost (suc (length bs)) (cond t (Some 2) (option_map suc (to_close bs)))) [
      | true ↦ λ is. let k = next_some 47 bs (and_true (eqb b 42) (next_is 47 bs) is).1 in omega arith
      | false ↦ λ is. one_more (length bs) (to_close bs) (close_within bs)
    ] refl

gap_within : (n : ℕ) (o : Option ℕ) → AtMost n o → IsWithin (n + 2) (option_map (λ m. gap (m + 2)) o)
gap_within n None h = tt
gap_within n (Some m) h = (omega arith, omega arith)

within_more : (m n : ℕ) (o : Option tokens.Piece) → m ≤ n → IsWithin m o → IsWithin n o
within_more m n None l h = tt
within_more m n (Some p) l h = (h.0, omega (arith, h.1))

comment_within : (bs : List ℕ) → IsWithin (suc (length bs)) (comment_at bs)
comment_within bs =
    let line : ℕ → Bool = λ c. not (eqb c 10) in
    one_within (suc (length bs)) (next_is 47 bs) (Some (gap (length (take (prefix_len line bs) bs) + 1))) (cond (next_is 42 bs) (option_map (λ m. gap (m + 2)) (to_close (drop 1 bs))) None)
    (λ e. (omega arith, omega (arith, length-prefix_len line bs, prefix_len-le-length line bs)))
    (λ e. one_within (suc (length bs)) (next_is 42 bs) (option_map (λ m. gap (m + 2)) (to_close (drop 1 bs))) None
    (λ f.
    let k = next_some 42 bs f in
    let l : length (drop 1 bs) + 2 ≤ suc (length bs) = omega (arith, length-drop 1 bs) in
    within_more (length (drop 1 bs) + 2) (suc (length bs)) (option_map (λ m. gap (m + 2)) (to_close (drop 1 bs))) l (gap_within (length (drop 1 bs)) (to_close (drop 1 bs)) (close_within (drop 1 bs))))
    (λ f. tt))

sized_within : (n : ℕ) (w r after : List ℕ) → length w + 1 + length r ≤ n → IsWithin n (sized_at w r after)
sized_within n w [] after h = tt
sized_within n w (b ∷ ds) after h =
    one_within n (is_width w && is_value (digits_value 10 w) (base_of b) ds && (eqb b 100 || not (next_is 63 after))) (piece (sized (digits_value 10 w) (digits_value (base_of b) ds)) (length w + length ds + 2)) None
    (λ e. (omega arith, omega arith)) (λ e. tt)

run_within : (n : ℕ) (r after : List ℕ) → 0 < length r → length r + length after ≤ n → IsWithin n (run_at r after)
run_within n r after some h =
    let short : length r ≤ n = omega arith in
    let behind : next_is 39 after ≡ true → length r + 1 + length (run_of (drop 1 after)) ≤ n =
    λ e. omega (arith, next_some 39 after e, length-drop 1 after, length-prefix_len is_run (drop 1 after), prefix_len-le-length is_run (drop 1 after)) in
    one_within n (is_word r) (piece (mark r) (length r)) (cond (is_name r) (piece (name r) (length r)) (cond (next_is 39 after) (sized_at r (run_of (drop 1 after)) (after_run (drop 1 after))) (cond (is_plain r) (piece (plain (digits_value 10 r)) (length r)) None))) (λ e. (some, short))
    (λ e. one_within n (is_name r) (piece (name r) (length r)) (cond (next_is 39 after) (sized_at r (run_of (drop 1 after)) (after_run (drop 1 after))) (cond (is_plain r) (piece (plain (digits_value 10 r)) (length r)) None)) (λ e. (some, short))
    (λ e. one_within n (next_is 39 after) (sized_at r (run_of (drop 1 after)) (after_run (drop 1 after))) (cond (is_plain r) (piece (plain (digits_value 10 r)) (length r)) None) (λ e. sized_within n r (run_of (drop 1 after)) (after_run (drop 1 after)) (behind e))
    (λ e. one_within n (is_plain r) (piece (plain (digits_value 10 r)) (length r)) None (λ e. (some, short)) (λ e. tt))))

symbol_within : (b : ℕ) (bs : List ℕ) → IsWithin (suc (length bs)) (symbol_at b bs)
symbol_within b bs =
    one_within (suc (length bs)) ((eqb b 60 || eqb b 61) && next_is 61 bs) (piece (mark (b ∷ 61 ∷ [])) 2) (cond (is_symbol b) (piece (mark (b ∷ [])) 1) None)
    (λ e. let k = next_some 61 bs (and_true (eqb b 60 || eqb b 61) (next_is 61 bs) e).1 in (omega arith, omega arith))
    (λ e. one_within (suc (length bs)) (is_symbol b) (piece (mark (b ∷ [])) 1) None (λ f. (omega arith, omega arith)) (λ f. tt))

run_some : (b : ℕ) (bs : List ℕ) → is_run b ≡ true → 0 < prefix_len is_run (b ∷ bs)
run_some b bs e = rw e (omega arith)

longest_within : (bs : List ℕ) → IsWithin (length bs) (piece_at bs)
unfolding piece_at
longest_within [] = tt
longest_within (b ∷ bs) =
    let n : ℕ = suc (length bs) in
    let runs : is_run b ≡ true → IsWithin n (run_at (run_of (b ∷ bs)) (after_run (b ∷ bs))) = λ e.
    run_within n (run_of (b ∷ bs)) (after_run (b ∷ bs)) (omega (arith, run_some b bs e, length-prefix_len is_run (b ∷ bs)))
    (omega (arith, length-drop (length (run_of (b ∷ bs))) (b ∷ bs), length-prefix_len is_run (b ∷ bs), prefix_len-le-length is_run (b ∷ bs))) in
    one_within n (is_blank b) (Some (gap 1)) (cond (eqb b 47) (comment_at bs) (cond (is_run b) (run_at (run_of (b ∷ bs)) (after_run (b ∷ bs))) (symbol_at b bs))) (λ e. (omega arith, omega arith))
    (λ e. one_within n (eqb b 47) (comment_at bs) (cond (is_run b) (run_at (run_of (b ∷ bs)) (after_run (b ∷ bs))) (symbol_at b bs)) (λ f. comment_within bs)
    (λ f. one_within n (is_run b) (run_at (run_of (b ∷ bs)) (after_run (b ∷ bs))) (symbol_at b bs) runs (λ g. symbol_within b bs)))

pub piece_within : (o : Option Piece) (bs : List ℕ) → option_map piece_of o ≡ piece_at bs
    → IfSome o (λ p. (0 < p.len) × (p.len ≤ length bs))
piece_within None bs e = tt
piece_within (Some p) bs e = subst (λ x. IsWithin (length bs) x) (sym e) (longest_within bs)
