-- Readers of single tokens, of words and symbols.
use Rattle.std.proofs.Common.{◌≡◌, ℕ, ◌+◌, ◌<◌, ◌≤◌, true, false, eqb, List, [], ◌∷◌, length, take, drop, Option, Some, None, Result, Ok, Err, refl, sym, ap, ◌∙◌, arith}
use Rattle.std.specs.List.{prefix_len}
use Rattle.std.proofs.lemmas.Bool.{eqb-true}
use Rattle.std.proofs.lemmas.Bool.Decides.{nat_tests}
use Rattle.vl_tree.specs.Tokens as tokens
use Rattle.vl_tree.specs.Tokens.{Placed, split, tokens_of}
use Rattle.vl_tree.specs.Reading.{Reader, one, left_of, made, made_of, paired, both, closed, phrase, phrase_of, the_mark}
use Rattle.vl_read.specs.declared.ahead.Ahead.{Ahead}
use Rattle.vl_read.specs.declared.error.ReadError.{ReadError}
use Rattle.vl_read.specs.declared.error.ReadError.TheVariants.{Memory, At}
use Rattle.vl_read.specs.Gives.{Fails}
use Rattle.vl_read.specs.View.{placed, placed_of, next_by}
use Rattle.vl_read.proofs.Scans.{no_space, split_last, split_more}

pub taken : {X : Type 0} (f : tokens.Token → Option X) (a : Ahead) (x : X) → next_by f (placed a) ≡ Some x
    → one f (placed a) ≡ Ok (x, tokens_of a.rest.now)
taken {X} f a x e =
    elim a.token as (λ t. next_by f (placed_of t a.left a.rest.now) ≡ Some x → one f (placed_of t a.left a.rest.now) ≡ Ok (x, tokens_of a.rest.now)) [
      | None ↦ λ h. absurd cc
      | Some t ↦ λ h. rw h refl
    ] e

pub refused : {X : Type 0} (f : tokens.Token → Option X) (a : Ahead) → next_by f (placed a) ≡ None
    → one f (placed a) ≡ Err (left_of (placed a))
refused {X} f a e =
    elim a.token as (λ t. next_by f (placed_of t a.left a.rest.now) ≡ None → one f (placed_of t a.left a.rest.now) ≡ Err (left_of (placed_of t a.left a.rest.now))) [ None ↦ λ h. refl | Some t ↦ λ h. rw h refl ] e

-- ---- words and symbols, one after another

abbrev here : Unit {0}
here = tt

abbrev only : Unit {0} × Unit {0} → Unit {0}
only x = here

first_mark : (m : List ℕ) (ms : List (List ℕ)) (ts r : List Placed) → one (the_mark m) ts ≡ Ok (here, r)
    → phrase_of (m ∷ ms) ts ≡ made_of only (paired here (phrase_of ms r))
unfolding phrase_of both made
first_mark m ms ts r e = rw e refl

same_done : (o : Result (Unit {0} × List Placed) ℕ) → made_of only (paired here o) ≡ o
same_done (Ok x) = refl
same_done (Err n) = refl

pub phrase_last : (text : List ℕ) (n : ℕ) (ts r : List Placed) → n ≡ prefix_len no_space text → n ≡ length text
    → one (the_mark (take n text)) ts ≡ Ok (here, r) → phrase text ts ≡ Ok (here, r)
unfolding phrase_of
phrase_last text n ts r is all e =
    let k : split text ≡ take n text ∷ [] = rw is (split_last text (sym is ∙ all)) in
    ap (λ ms. phrase_of ms ts) k ∙ first_mark (take n text) [] ts r e

pub phrase_more : (text : List ℕ) (n : ℕ) (ts r : List Placed) → n ≡ prefix_len no_space text → n < length text
    → one (the_mark (take n text)) ts ≡ Ok (here, r) → phrase text ts ≡ phrase (drop (n + 1) text) r
phrase_more text n ts r is lt e =
    let below : prefix_len no_space text < length text = omega arith in
    let k : split text ≡ take n text ∷ split (drop (n + 1) text) = rw is (split_more text below) in
    ap (λ ms. phrase_of ms ts) k ∙ first_mark (take n text) (split (drop (n + 1) text)) ts r e
    ∙ same_done (phrase_of (split (drop (n + 1) text)) r)

-- where the first one doesn't fit
pub phrase_stops : (text : List ℕ) (n m : ℕ) (ts : List Placed) → n ≡ prefix_len no_space text → n ≤ length text
    → one (the_mark (take n text)) ts ≡ Err m → phrase text ts ≡ Err m
unfolding phrase_of both made
phrase_stops text n m ts is le e =
    elim (eqb n (length text)) as (λ t. eqb n (length text) ≡ t → phrase text ts ≡ Err m) [
      | true ↦ λ same.
          let all : n ≡ length text = eqb-true n (length text) same in
          let k : split text ≡ take n text ∷ [] = rw is (split_last text (sym is ∙ all)) in
          rw (k, e) refl
      | false ↦ λ other.
          let below : prefix_len no_space text < length text = grind (arith, nat_tests) in
          let k : split text ≡ take n text ∷ split (drop (n + 1) text) = rw is (split_more text below) in
          rw (k, e) refl
    ] refl

pub phrase_fails : (e : ReadError) (text : List ℕ) (n : ℕ) (ts : List Placed) → n ≡ prefix_len no_space text
    → n ≤ length text → Fails e (one (the_mark (take n text)) ts) → Fails e (phrase text ts)
phrase_fails (Memory a) text n ts is le f = tt
phrase_fails (At m) text n ts is le f = phrase_stops text n m ts is le f

-- ---- a value, and then words and symbols

pub closed_gives : {X : Type 0} (p : Reader X) (text : List ℕ) (ts : List Placed) (x : X) (r s : List Placed)
    → p ts ≡ Ok (x, r) → phrase text r ≡ Ok (here, s) → closed p text ts ≡ Ok (x, s)
unfolding both made
closed_gives p text ts x r s e f = rw (e, f) refl

pub closed_fails : {X : Type 0} (e : ReadError) (p : Reader X) (text : List ℕ) (ts : List Placed) (x : X)
    (r : List Placed) → p ts ≡ Ok (x, r) → Fails e (phrase text r) → Fails e (closed p text ts)
unfolding both made
closed_fails (Memory a) p text ts x r e f = tt
closed_fails (At n) p text ts x r e f = rw (e, f) refl
