-- One of the spans that begin by a cycle has it, exactly where their greatest end is after it.
use Rattle.std.proofs.Common.{◌≡◌, ℕ, zero, suc, ◌≤◌, ◌+◌, max, Bool, true, false, ◌||◌, leb, ltb, List, [], ◌∷◌, length, refl, ap, ◌∙◌, arith}
use Rattle.std.specs.List.{list_any}
use Rattle.std.specs.List.Sorted.{IsPartitionPoint}
use Rattle.std.proofs.lemmas.Bool.Decides.{nat_tests}
use Rattle.tile_drive.specs.declared.scripts.Span.{Span}
use Rattle.tile_drive.specs.TraceDriver.{covers}
use Rattle.tile_drive.specs.Scripts.{ends_from, end_at, AreSettled}

-- the first n spans begin by the cycle, and no other does
abbrev Begun : ℕ → List Span → ℕ → Type 0
Begun t spans n =
    IsPartitionPoint (λ (span : Span). leb span.cycle t ≡ true) (λ (span : Span). leb span.cycle t ≡ false) spans n

-- the ends behind the first
end_at-cons : (m e : ℕ) (ends : List ℕ) (n : ℕ) → end_at m (e ∷ ends) (suc n) ≡ end_at e ends n
end_at-cons m e ends zero = refl
end_at-cons m e ends (suc n) = refl

or-false : (b : Bool) → b ≡ (b || false)
or-false true = refl
or-false false = refl

or-assoc : (a b c : Bool) → ((a || b) || c) ≡ (a || (b || c))
or-assoc true b c = refl
or-assoc false b c = refl

before_max : (t m e : ℕ) → ltb t (max m e) ≡ (ltb t m || ltb t e)
before_max t m e = grind (arith, nat_tests)

-- none has the cycle where none begins by it
none_covers : (t : ℕ) (spans : List Span) → Begun t spans 0 → list_any (covers t) spans ≡ false
none_covers t [] begun = refl
none_covers t (span ∷ more) begun =
    let late : leb span.cycle t ≡ false = begun.1 0 span (omega arith) (omega arith) in
    rw late (none_covers t more (λ k d low high. absurd (omega arith), λ k d low high. begun.1 (suc k) d (omega arith) (omega arith)))

pub covered : (t m : ℕ) (spans : List Span) (n : ℕ) → n ≤ length spans → Begun t spans n
    → ltb t (end_at m (ends_from m spans) n) ≡ (ltb t m || list_any (covers t) spans)
covered t m [] zero few begun = or-false (ltb t m)
covered t m [] (suc n) few begun = absurd (omega arith)
covered t m (span ∷ more) zero few begun = rw (none_covers t (span ∷ more) begun) (or-false (ltb t m))
covered t m (span ∷ more) (suc n) few begun =
    let early : leb span.cycle t ≡ true = begun.0 0 span (omega arith) (omega arith) in
    let end : ℕ = max m (span.cycle + span.count) in
    let behind = covered t end more n (omega arith)
    (λ k d low high. begun.0 (suc k) d (omega arith) (omega arith), λ k d low high. begun.1 (suc k) d (omega arith) (omega arith)) in
    ap (λ e. ltb t e) (end_at-cons m end (ends_from end more) n) ∙ behind
    ∙ ap (λ b. b || list_any (covers t) more) (before_max t m (span.cycle + span.count))
    ∙ or-assoc (ltb t m) (ltb t (span.cycle + span.count)) (list_any (covers t) more)
    ∙ rw early refl

-- there are as many ends as spans
length-ends_from : (m : ℕ) (spans : List Span) → length (ends_from m spans) ≡ length spans
length-ends_from m [] = refl
length-ends_from m (span ∷ more) = ap suc (length-ends_from (max m (span.cycle + span.count)) more)

pub ends_for_all : (spans : List Span) (ends : List ℕ) (n : ℕ) → AreSettled spans ends → n ≤ length spans
    → n ≤ length ends
ends_for_all spans ends n settled few = omega (arith, few, ap length settled.ends_are, length-ends_from 0 spans)

-- the same, of what the code finds
pub covered_by : (t t' : ℕ) (spans : List Span) (ends : List ℕ) (n e : ℕ) → AreSettled spans ends → n ≤ length spans
    → Begun t spans n
    → t' ≡ t → e ≡ end_at 0 ends n → ltb t' e ≡ list_any (covers t) spans
covered_by t t' spans ends n e settled few begun t_is e_is =
    let none : ltb t 0 ≡ false = grind (arith, nat_tests) in
    rw (t_is, e_is, settled.ends_are) (covered t 0 spans n few begun ∙ rw none refl)
