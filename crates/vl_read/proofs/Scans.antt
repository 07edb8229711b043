-- How far a text goes on in one way.
use Rattle.std.proofs.Common.{◌≡◌, ℕ, suc, ◌+◌, ◌<◌, ◌≤◌, Bool, true, false, cond, eqb, List, [], ◌∷◌, length, get_or, take, drop, Option, Some, None, refl, sym, ap, ◌∙◌, arith}
use Rattle.std.specs.Prelude.{not, ◌&&◌, option_map}
use Rattle.std.specs.List.{prefix_len, list_any}
use Rattle.std.specs.Str.{bytes_eq}
use Rattle.std.proofs.lemmas.List.{drop_more}
use Rattle.std.proofs.lemmas.Bool.{eqb-true}
use Rattle.std.proofs.lemmas.Bool.Decides.{nat_tests}
use Rattle.vl_tree.specs.Tokens.{next_is, with_first, split, to_close}

pub next_first : (b : ℕ) (bs : List ℕ) → 0 < length bs → next_is b bs ≡ eqb (get_or bs 0 0) b
next_first b [] h = absurd (omega arith)
next_first b (c ∷ cs) h = refl

pub next_none : (b : ℕ) (bs : List ℕ) → length bs ≡ 0 → next_is b bs ≡ false
next_none b [] h = refl
next_none b (c ∷ cs) h = absurd (omega arith)

-- ---- to the end of a comment

-- whether */ stands at the place
abbrev pub closes : List ℕ → ℕ → Bool
closes bs i = eqb (get_or bs i 0) 42 && next_is 47 (drop (i + 1) bs)

close_one : (bs : List ℕ) (i : ℕ) → i < length bs
    → to_close (drop i bs) ≡ cond (closes bs i) (Some 2) (option_map suc (to_close (drop (i + 1) bs)))
close_one bs i lt = rw (drop_more bs i 0 lt) refl

pub close_here : (bs : List ℕ) (i : ℕ) (w : Option ℕ) → i < length bs → closes bs i ≡ true
    → option_map (λ n. n + i) (to_close (drop i bs)) ≡ w → Some (i + 2) ≡ w
close_here bs i w lt shut so_far =
    let e : to_close (drop i bs) ≡ Some 2 = close_one bs i lt ∙ rw shut refl in
    let k : option_map (λ n. n + i) (to_close (drop i bs)) ≡ Some (2 + i) = rw e refl in
    let m : i + 2 ≡ 2 + i = omega arith in
    ap Some m ∙ sym k ∙ so_far

later : (i : ℕ) (o : Option ℕ) → option_map (λ n. n + (i + 1)) o ≡ option_map (λ n. n + i) (option_map suc o)
later i None = refl
later i (Some n) = let e : n + (i + 1) ≡ suc n + i = omega arith in ap Some e

pub close_on : (bs : List ℕ) (i : ℕ) (w : Option ℕ) → i < length bs → closes bs i ≡ false
    → option_map (λ n. n + i) (to_close (drop i bs)) ≡ w
    → option_map (λ n. n + (i + 1)) (to_close (drop (i + 1) bs)) ≡ w
close_on bs i w lt other so_far =
    let e : to_close (drop i bs) ≡ option_map suc (to_close (drop (i + 1) bs)) = close_one bs i lt ∙ rw other refl in
    later i (to_close (drop (i + 1) bs)) ∙ ap (option_map (λ n. n + i)) (sym e) ∙ so_far

-- ---- the parts of a text between spaces

abbrev pub no_space : ℕ → Bool
no_space c = not (eqb c 32)

take_on : (b : ℕ) (bs : List ℕ) (p : ℕ) → b ∷ take p bs ≡ take (1 + p) (b ∷ bs)
take_on b bs p = let e : 1 + p ≡ suc p = omega arith in rw e refl

drop_on : (b : ℕ) (bs : List ℕ) (p : ℕ) → drop (p + 1) bs ≡ drop (1 + p + 1) (b ∷ bs)
drop_on b bs p = let e : 1 + p + 1 ≡ suc (p + 1) = omega arith in rw e refl

pub split_last : (bs : List ℕ) → prefix_len no_space bs ≡ length bs → split bs ≡ take (prefix_len no_space bs) bs ∷ []
split_last [] h = refl
split_last (b ∷ bs) h =
    elim (eqb b 32) as (λ t. eqb b 32 ≡ t → cond (not t) (1 + prefix_len no_space bs) 0 ≡ suc (length bs) → cond t ([] ∷ split bs) (with_first b (split bs)) ≡ take (cond (not t) (1 + prefix_len no_space bs) 0) (b ∷ bs) ∷ []) [
      | true ↦ λ is e. absurd (omega arith)
      | false ↦ λ is e.
          let k : prefix_len no_space bs ≡ length bs = omega arith in
          ap (with_first b) (split_last bs k) ∙ ap (λ r. r ∷ []) (take_on b bs (prefix_len no_space bs))
    ] refl h

pub split_more : (bs : List ℕ) → prefix_len no_space bs < length bs
    → split bs ≡ take (prefix_len no_space bs) bs ∷ split (drop (prefix_len no_space bs + 1) bs)
split_more [] h = absurd (omega arith)
split_more (b ∷ bs) h =
    elim (eqb b 32) as (λ t. eqb b 32 ≡ t → cond (not t) (1 + prefix_len no_space bs) 0 < suc (length bs) → cond t ([] ∷ split bs) (with_first b (split bs)) ≡ take (cond (not t) (1 + prefix_len no_space bs) 0) (b ∷ bs) ∷ split (drop (cond (not t) (1 + prefix_len no_space bs) 0 + 1) (b ∷ bs))) [
      | true ↦ λ is e. refl
      | false ↦ λ is e.
          let k : prefix_len no_space bs < length bs = omega arith in
          let a = take_on b bs (prefix_len no_space bs) in
          let d = drop_on b bs (prefix_len no_space bs) in
          ap (with_first b) (split_more bs k) ∙ cc (a, d)
    ] refl h

pub among_first : (r text : List ℕ) (n : ℕ) → n ≡ prefix_len no_space text → n ≤ length text
    → bytes_eq r (take n text) ≡ true → list_any (bytes_eq r) (split text) ≡ true
among_first r text n is le e =
    elim (eqb n (length text)) as (λ t. eqb n (length text) ≡ t → list_any (bytes_eq r) (split text) ≡ true) [
      | true ↦ λ same.
          let all : n ≡ length text = eqb-true n (length text) same in
          let k : split text ≡ take n text ∷ [] = rw is (split_last text (sym is ∙ all)) in
          rw (k, e) refl
      | false ↦ λ other.
          let below : prefix_len no_space text < length text = grind (arith, nat_tests) in
          let k : split text ≡ take n text ∷ split (drop (n + 1) text) = rw is (split_more text below) in
          rw (k, e) refl
    ] refl

pub among_last : (r text : List ℕ) (n : ℕ) → n ≡ prefix_len no_space text → n ≡ length text
    → bytes_eq r (take n text) ≡ false → list_any (bytes_eq r) (split text) ≡ false
among_last r text n is all e =
    let k : split text ≡ take n text ∷ [] = rw is (split_last text (sym is ∙ all)) in
    rw (k, e) refl

pub among_more : (r text : List ℕ) (n : ℕ) → n ≡ prefix_len no_space text → n < length text
    → bytes_eq r (take n text) ≡ false
    → list_any (bytes_eq r) (split text) ≡ list_any (bytes_eq r) (split (drop (n + 1) text))
among_more r text n is lt e =
    let below : prefix_len no_space text < length text = omega arith in
    let k : split text ≡ take n text ∷ split (drop (n + 1) text) = rw is (split_more text below) in
    rw (k, e) refl
