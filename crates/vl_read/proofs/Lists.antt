-- Reading lists one by one, as a loop does.
use Rattle.std.proofs.Common.{◌≡◌, ℕ, zero, suc, ◌<◌, Bool, true, false, List, [], ◌∷◌, ◌++◌, length, Result, Ok, Err, refl, sym, ap, ◌∙◌, append_assoc, arith}
use Rattle.std.proofs.lemmas.List.{append-nil}
use Rattle.vl_tree.specs.Tokens.{Token, Placed}
use Rattle.vl_tree.specs.Reading.{Reader, both, made, made_of, paired, either, next_passes, until_within, until}
use Rattle.vl_read.specs.declared.error.ReadError.{ReadError}
use Rattle.vl_read.specs.declared.error.ReadError.TheVariants.{Memory, At}
use Rattle.vl_read.specs.Gives.{Fails}
use Rattle.vl_read.specs.Lists.{more_of}

-- what it reads takes a token at least
abbrev pub Takes : {X : Type 0} → Reader X → Type 0
Takes {X} p = (ts : List Placed) (x : X) (r : List Placed) → p ts ≡ Ok (x, r) → length r < length ts

abbrev in_front : {X Y : Type 0} → X × (List X × Y) → List X × Y
in_front x = (x.0 ∷ x.1.0, x.1.1)

abbrev alone : {X Y : Type 0} → Y → List X × Y
alone y = ([], y)

abbrev step : {X Y : Type 0} → Reader (List X × Y) → X → List Placed → Result ((List X × Y) × List Placed) ℕ
step k x r = made_of in_front (paired x (k r))

step_of : {X Y : Type 0} (n : ℕ) (c : Token → Bool) (p : Reader X) (q : Reader Y) (ts : List Placed) (x : X)
    (r : List Placed) → next_passes c ts ≡ true → p ts ≡ Ok (x, r)
    → until_within (suc n) c p q ts ≡ step (until_within n c p q) x r
unfolding until_within either both made
step_of n c p q ts x r passes e = rw (passes, e) refl

stop_of : {X Y : Type 0} (n m : ℕ) (c : Token → Bool) (p : Reader X) (q : Reader Y) (ts : List Placed)
    → next_passes c ts ≡ true → p ts ≡ Err m → until_within (suc n) c p q ts ≡ Err m
unfolding until_within either both made
stop_of n m c p q ts passes e = rw (passes, e) refl

end_of : {X Y : Type 0} (n : ℕ) (c : Token → Bool) (p : Reader X) (q : Reader Y) (ts : List Placed)
    → next_passes c ts ≡ false → until_within (suc n) c p q ts ≡ made_of (alone {X = X}) (q ts)
unfolding until_within either both made
end_of n c p q ts passes = rw passes refl

enough : {X Y : Type 0} (n m : ℕ) (c : Token → Bool) (p : Reader X) (q : Reader Y) (ts : List Placed) → Takes p
    → length ts < n → length ts < m → until_within n c p q ts ≡ until_within m c p q ts
enough zero m c p q ts takes l k = absurd (omega arith)
enough (suc n) zero c p q ts takes l k = absurd (omega arith)
enough {X} (suc n) (suc m) c p q ts takes l k =
    elim (next_passes c ts) as (λ b. next_passes c ts ≡ b → until_within (suc n) c p q ts ≡ until_within (suc m) c p q ts) [
      | true ↦ λ passes.
          elim (p ts) as (λ o. p ts ≡ o → until_within (suc n) c p q ts ≡ until_within (suc m) c p q ts) [
            | Ok x ↦ λ is.
                let s = takes ts x.0 x.1 is in
                let e = enough n m c p q x.1 takes (omega arith) (omega arith) in
                step_of n c p q ts x.0 x.1 passes is ∙ ap (λ o. made_of in_front (paired x.0 o)) e
                ∙ sym (step_of m c p q ts x.0 x.1 passes is)
            | Err i ↦ λ is. stop_of n i c p q ts passes is ∙ sym (stop_of m i c p q ts passes is)
          ] refl
      | false ↦ λ passes. end_of n c p q ts passes ∙ sym (end_of m c p q ts passes)
    ] refl

pub until_on : {X Y : Type 0} (c : Token → Bool) (p : Reader X) (q : Reader Y) (ts : List Placed) (x : X)
    (r : List Placed) → Takes p → next_passes c ts ≡ true → p ts ≡ Ok (x, r) → until c p q ts ≡ step (until c p q) x r
unfolding until
until_on c p q ts x r takes passes e =
    let s = takes ts x r e in
    step_of (length ts) c p q ts x r passes e
    ∙ ap (λ o. made_of in_front (paired x o)) (enough (length ts) (suc (length r)) c p q r takes s (omega arith))

pub until_stops : {X Y : Type 0} (c : Token → Bool) (p : Reader X) (q : Reader Y) (ts : List Placed) (n : ℕ)
    → next_passes c ts ≡ true → p ts ≡ Err n → until c p q ts ≡ Err n
unfolding until
until_stops c p q ts n passes e = stop_of (length ts) n c p q ts passes e

pub until_ends : {X Y : Type 0} (c : Token → Bool) (p : Reader X) (q : Reader Y) (ts : List Placed)
    → next_passes c ts ≡ false → until c p q ts ≡ made_of (alone {X = X}) (q ts)
unfolding until
until_ends c p q ts passes = end_of (length ts) c p q ts passes

regroup : {X Y : Type 0} (xs : List X) (x : X) (o : Result ((List X × Y) × List Placed) ℕ)
    → more_of xs (made_of in_front (paired x o)) ≡ more_of (xs ++ x ∷ []) o
regroup xs x (Ok y) = ap (λ zs. Ok ((zs, y.0.1), y.1)) (sym (append_assoc xs (x ∷ []) y.0.0))
regroup xs x (Err n) = refl

pub more_none : {X Y : Type 0} (o : Result ((List X × Y) × List Placed) ℕ) → more_of [] o ≡ o
more_none (Ok y) = refl
more_none (Err n) = refl

-- ---- the steps of a loop

pub loop_on : {X Y : Type 0} (c : Token → Bool) (p : Reader X) (q : Reader Y) (xs : List X) (ts : List Placed) (x : X)
    (r : List Placed) (total : Result ((List X × Y) × List Placed) ℕ)
    → Takes p → next_passes c ts ≡ true → p ts ≡ Ok (x, r) → more_of xs (until c p q ts) ≡ total
    → more_of (xs ++ x ∷ []) (until c p q r) ≡ total
loop_on c p q xs ts x r total takes passes e so_far =
    sym (regroup xs x (until c p q r)) ∙ sym (ap (more_of xs) (until_on c p q ts x r takes passes e)) ∙ so_far

pub loop_stops : {X Y : Type 0} (e : ReadError) (c : Token → Bool) (p : Reader X) (q : Reader Y) (xs : List X)
    (ts : List Placed) (total : Result ((List X × Y) × List Placed) ℕ)
    → next_passes c ts ≡ true → Fails e (p ts) → more_of xs (until c p q ts) ≡ total → Fails e total
loop_stops (Memory a) c p q xs ts total passes f so_far = tt
loop_stops (At n) c p q xs ts total passes f so_far = sym so_far ∙ ap (more_of xs) (until_stops c p q ts n passes f)

pub loop_ends : {X Y : Type 0} (c : Token → Bool) (p : Reader X) (q : Reader Y) (xs : List X) (ts : List Placed) (y : Y)
    (r : List Placed) (total : Result ((List X × Y) × List Placed) ℕ)
    → next_passes c ts ≡ false → q ts ≡ Ok (y, r) → more_of xs (until c p q ts) ≡ total → total ≡ Ok ((xs, y), r)
loop_ends c p q xs ts y r total passes e so_far =
    let all : until c p q ts ≡ Ok (([], y), r) = until_ends c p q ts passes ∙ ap (made_of alone) e in
    sym so_far ∙ ap (more_of xs) all ∙ ap (λ zs. Ok ((zs, y), r)) (append-nil xs)

pub loop_refused : {X Y : Type 0} (e : ReadError) (c : Token → Bool) (p : Reader X) (q : Reader Y) (xs : List X)
    (ts : List Placed) (total : Result ((List X × Y) × List Placed) ℕ)
    → next_passes c ts ≡ false → Fails e (q ts) → more_of xs (until c p q ts) ≡ total → Fails e total
loop_refused (Memory a) c p q xs ts total passes f so_far = tt
loop_refused (At n) c p q xs ts total passes f so_far =
    sym so_far ∙ ap (more_of xs) (until_ends c p q ts passes ∙ ap (made_of alone) f)
