-- One more draw, one more send, one more cycle.
use Rattle.std.proofs.Common.{◌≡◌, ℕ, zero, suc, ◌+◌, ◌*◌, ◌/◌, ◌%◌, Bool, true, false, List, [], ◌∷◌, ◌++◌, length, drop, map, refl, sym, ap, ◌∙◌, arith, Some, add-one, append_assoc}
use Rattle.std.specs.Prelude.{if◌then◌else◌, ◌==◌, slice_get, filter, flat_map}
use Rattle.std.specs.List.{range_with_len}
use Rattle.std.proofs.lemmas.List.FromFn.{map-range_with_len_more}
use Rattle.std.proofs.lemmas.List.Concat.{flat_map-append}
use Rattle.std.proofs.lemmas.List.Elements.{filter-append}
use Rattle.std.proofs.lemmas.List.{append-nil}
use Rattle.std.proofs.lemmas.Bool.Decides.{nat_tests}
use Rattle.std.proofs.lemmas.Option.{none-some}
use Rattle.noc_model.specs.declared.Host.{Host}
use Rattle.noc_model.specs.Plan.{Plan}
use Rattle.noc_model.proofs.HostTiles.{host_tiles}
use Rattle.trace_read.specs.declared.entries.Entry.{Entry}
use Rattle.stress_gen.specs.Draws.{next, after_draws}
use Rattle.stress_gen.specs.Sends.{after_send, after_sends, sends_in, sends_before, sending, stress_trace}

pub more-draws : (x k : ℕ) → after_draws x (k + 1) ≡ next (after_draws x k)
more-draws x k = rw add-one refl

pub more-sends : (x k : ℕ) → after_sends x (k + 1) ≡ after_send (after_sends x k)
more-sends x k = rw add-one refl

-- sends and then more
pub sends-then : (x k j : ℕ) → after_sends (after_sends x k) j ≡ after_sends x (k + j)
sends-then x k zero = let e : k ≡ k + 0 = omega arith in ap (after_sends x) e
sends-then x k (suc j) = let e : suc (k + j) ≡ k + suc j = omega arith in ap after_send (sends-then x k j) ∙ ap (after_sends x) e

-- the numbers below one more
pub range-more : (n : ℕ) → range_with_len 0 (n + 1) ≡ range_with_len 0 n ++ n ∷ []
range-more n = sym (same (range_with_len 0 (n + 1))) ∙ map-range_with_len_more (λ k. k) 0 n n (omega arith) ∙ ap (λ (xs : List ℕ). xs ++ n ∷ []) (same (range_with_len 0 n))
  where
    same : (xs : List ℕ) → map (λ k. k) xs ≡ xs
    same [] = refl
    same (x ∷ xs) = ap (λ (ys : List ℕ). x ∷ ys) (same xs)

pub flat_map-more : {A : Type 0} (f : ℕ → List A) (n : ℕ) → flat_map f (range_with_len 0 (n + 1)) ≡ flat_map f (range_with_len 0 n) ++ f n
flat_map-more f n = ap (flat_map f) (range-more n) ∙ flat_map-append f (range_with_len 0 n) (n ∷ []) ∙ ap (λ z. flat_map f (range_with_len 0 n) ++ z) (append-nil (f n))

-- ---- cycles

sending-at : (n : ℕ) (b : Bool) → (n % 16 == 0) ≡ b → sending (n + 1) ≡ sending n ++ (if b then n ∷ [] else [])
sending-at n b e =
    ap (filter (λ c. c % 16 == 0)) (range-more n) ∙ filter-append (λ c. c % 16 == 0) (range_with_len 0 n) (n ∷ [])
    ∙ ap (λ (w : Bool). sending n ++ (if w then n ∷ [] else [])) e

-- a cycle with sends
pub trace-sent : (p : Plan) (x n : ℕ) → n % 16 ≡ 0 → stress_trace p x (n + 1) ≡ stress_trace p x n ++ sends_in p (after_sends x (sends_before p n)) n
unfolding stress_trace
trace-sent p x n e =
    let f : ℕ → List Entry = λ c. sends_in p (after_sends x (sends_before p c)) c in
    ap (flat_map f) (sending-at n true (grind (arith, nat_tests))) ∙ flat_map-append f (sending n) (n ∷ []) ∙ ap (λ z. flat_map f (sending n) ++ z) (append-nil (f n))

pub sent-before : (p : Plan) (n : ℕ) → n % 16 ≡ 0 → sends_before p (n + 1) ≡ sends_before p n + length p.hosts
sent-before p n e = ap (λ k. k * length p.hosts) rounds ∙ omega arith
  where
    rounds : (n + 1 + 15) / 16 ≡ (n + 15) / 16 + 1
    rounds = omega arith

-- and without
pub trace-kept : (p : Plan) (x n : ℕ) → (n % 16 ≡ 0 → ⊥) → stress_trace p x (n + 1) ≡ stress_trace p x n
unfolding stress_trace
trace-kept p x n e =
    let f : ℕ → List Entry = λ c. sends_in p (after_sends x (sends_before p c)) c in
    ap (flat_map f) (sending-at n false (grind (arith, nat_tests)) ∙ append-nil (sending n))

pub kept-before : (p : Plan) (n : ℕ) → (n % 16 ≡ 0 → ⊥) → sends_before p (n + 1) ≡ sends_before p n
kept-before p n e = ap (λ k. k * length p.hosts) rounds
  where
    rounds : (n + 1 + 15) / 16 ≡ (n + 15) / 16
    rounds = omega arith

-- ---- the tiles of a domain

pub drop-at : {A : Type 0} (xs : List A) (j : ℕ) (x : A) → slice_get xs j ≡ Some x → drop j xs ≡ x ∷ drop (j + 1) xs
drop-at [] j x e = absurd (none-some x e)
drop-at (y ∷ xs) zero x e = let one : y ≡ x = cc in ap (λ z. z ∷ xs) one
drop-at (y ∷ xs) (suc j) x e = let same : suc (j + 1) ≡ suc j + 1 = omega arith in drop-at xs j x e ∙ ap (λ k. x ∷ drop k (y ∷ xs)) same

-- an attachment of the domain
pub tiles-own : (d : ℕ) (hs : List Host) (j : ℕ) (h : Host) (so_far : List ℕ) → slice_get hs j ≡ Some h → h.domain ≡ d
    → so_far ++ host_tiles d (drop j hs) ≡ host_tiles d hs → (so_far ++ h.tile ∷ []) ++ host_tiles d (drop (j + 1) hs) ≡ host_tiles d hs
tiles-own d hs j h so_far at own e =
    append_assoc so_far (h.tile ∷ []) (host_tiles d (drop (j + 1) hs))
    ∙ ap (λ (b : Bool). so_far ++ (if b then h.tile ∷ host_tiles d (drop (j + 1) hs) else host_tiles d (drop (j + 1) hs))) (sym same)
    ∙ ap (λ z. so_far ++ host_tiles d z) (sym (drop-at hs j h at)) ∙ e
  where
    same : (h.domain == d) ≡ true
    same = grind (arith, nat_tests)

-- an attachment of another
pub tiles-other : (d : ℕ) (hs : List Host) (j : ℕ) (h : Host) (so_far : List ℕ) → slice_get hs j ≡ Some h → (h.domain ≡ d → ⊥)
    → so_far ++ host_tiles d (drop j hs) ≡ host_tiles d hs → so_far ++ host_tiles d (drop (j + 1) hs) ≡ host_tiles d hs
tiles-other d hs j h so_far at other e =
    ap (λ (b : Bool). so_far ++ (if b then h.tile ∷ host_tiles d (drop (j + 1) hs) else host_tiles d (drop (j + 1) hs))) (sym same)
    ∙ ap (λ z. so_far ++ host_tiles d z) (sym (drop-at hs j h at)) ∙ e
  where
    same : (h.domain == d) ≡ false
    same = grind (arith, nat_tests)
