-- A round-robin choice that is made from one number after the other, upwards.
use Rattle.std.proofs.Common.{◌≡◌, ◌≢◌, ℕ, zero, suc, ◌+◌, ◌<◌, ◌≤◌, Bool, true, false, refl, sym, ◌∙◌, ap, arith, ⊎_elim}
use Rattle.std.specs.Prelude.{Option, Some, None, nat_le, nat_lt, ◌==◌, ◌&&◌, ◌||◌, if◌then◌else◌}
use Rattle.std.specs.Option.{option_or}
use Rattle.std.proofs.lemmas.Bool.{cases_eq}
use Rattle.std.proofs.lemmas.Bool.Decides.{nat_tests}
use Rattle.noc_model.specs.Pick.{least, number_if, pick}
use Rattle.noc_model.proofs.Least.{pick-member, pick-same}
use Rattle.vc_partition.specs.Picks.{better, with_member, from_on}
use Rattle.vc_partition.proofs.Picks.{least-none, pick-insert}

-- the members below m
abbrev pub below : ℕ → (ℕ → Bool) → ℕ → Bool
below m set k = nat_lt k m && set k

below-next : (m k : ℕ) → k ≢ m → nat_lt k (m + 1) ≡ nat_lt k m
below-next m k apart = grind (arith, nat_tests)

pub below-in : (m : ℕ) (set : ℕ → Bool) → set m ≡ true → (k : ℕ) → below (m + 1) set k ≡ with_member (below m set) m k
below-in m set is k = ⊎_elim
    (λ (e : k ≡ m).
    let a : nat_lt k (m + 1) ≡ true = grind (arith, nat_tests) in
    let b : (k == m) ≡ true = grind (arith, nat_tests) in
    ap (λ t. t && set k) a ∙ ap set e ∙ is ∙ sym (or-true (below m set k)) ∙ sym (ap (λ t. below m set k || t) b))
    (λ (apart : k ≢ m).
    let b : (k == m) ≡ false = grind (arith, nat_tests) in
    ap (λ t. t && set k) (below-next m k apart) ∙ sym (or-false (below m set k)) ∙ sym (ap (λ t. below m set k || t) b))
    (cases_eq k m)
  where
    or-true : (a : Bool) → (a || true) ≡ true
    or-true true = refl
    or-true false = refl

    or-false : (a : Bool) → (a || false) ≡ a
    or-false true = refl
    or-false false = refl

pub below-out : (m : ℕ) (set : ℕ → Bool) → set m ≡ false → (k : ℕ) → below (m + 1) set k ≡ below m set k
below-out m set is k = ⊎_elim
    (λ (e : k ≡ m).
    let none : set k ≡ false = ap set e ∙ is in
    ap (λ t. nat_lt k (m + 1) && t) none ∙ and-false (nat_lt k (m + 1)) ∙ sym (and-false (nat_lt k m)) ∙ sym (ap (λ t. nat_lt k m && t) none))
    (λ (apart : k ≢ m). ap (λ t. t && set k) (below-next m k apart))
    (cases_eq k m)
  where
    and-false : (a : Bool) → (a && false) ≡ false
    and-false true = refl
    and-false false = refl

-- the choice among the members below m + 1
pub pick-next : (n : ℕ) (set : ℕ → Bool) (pointer m : ℕ) → m < n → (b : Bool) → set m ≡ b
    → pick n (below (m + 1) set) pointer ≡ (if b then better pointer (pick n (below m set) pointer) m else pick n (below m set) pointer)
pick-next n set pointer m less true is =
    pick-same n (below (m + 1) set) (with_member (below m set) m) pointer pointer (λ k there. below-in m set is k) refl
    ∙ pick-insert n (below m set) pointer m less
pick-next n set pointer m less false is =
    pick-same n (below (m + 1) set) (below m set) pointer pointer (λ k there. below-out m set is k) refl

-- none is below 0
pub pick-start : (n : ℕ) (set : ℕ → Bool) (pointer : ℕ) → pick n (below 0 set) pointer ≡ None
pick-start n set pointer = go (pick n (below 0 set) pointer) refl
  where
    no : (k : ℕ) → nat_lt k 0 ≡ false
    no k = grind (arith, nat_tests)

    go : (o : Option ℕ) → pick n (below 0 set) pointer ≡ o → pick n (below 0 set) pointer ≡ None
    go None e = e
    go (Some k) e =
        absurd (let t = sym (pick-member n (below 0 set) pointer k e).1 ∙ ap (λ b. b && set k) (no k) in cc t)

-- all are below n
pub pick-end : (n : ℕ) (set : ℕ → Bool) (pointer m : ℕ) → n ≤ m → pick n (below m set) pointer ≡ pick n set pointer
pick-end n set pointer m all = pick-same n (below m set) set pointer pointer
    (λ k there. let t : nat_lt k m ≡ true = grind (arith, nat_tests) in ap (λ b. b && set k) t) refl

-- where no number below n is a member, there is no least one
pub least-empty : (n : ℕ) (set : ℕ → Bool) → ((k : ℕ) → k < n → set k ≡ false) → least n set ≡ None
least-empty zero set none = refl
least-empty (suc n) set none =
    ap (λ o. option_or o (number_if (set n) n)) (least-empty n set (λ k less. none k (omega (arith, less))))
    ∙ ap (λ b. option_or None (number_if b n)) (none n (omega arith))

-- none is below the pointer
pub none-before : (from : ℕ) (set : ℕ → Bool) → least from (from_on from set) ≡ None
none-before from set =
    least-empty from (from_on from set)
    (λ k less. let late : nat_le from k ≡ false = grind (arith, nat_tests, less) in ap (λ b. b && set k) late)

pub none-fewer : (m n : ℕ) (set : ℕ → Bool) → m ≤ n → least n set ≡ None → least m set ≡ None
none-fewer m n set few none = least-empty m set (λ k less. least-none n set k none (omega (arith, few, less)))

-- one number more that is no member
pub none-more : (n from : ℕ) (set : ℕ → Bool) → set n ≡ false → least n (from_on from set) ≡ None
    → least (n + 1) (from_on from set) ≡ None
none-more n from set here before =
    let next : n + 1 ≡ suc n = omega arith in
    ap (λ k. least k (from_on from set)) next
    ∙ ap (λ o. option_or o (number_if (nat_le from n && set n) n)) before ∙ ap (λ b. option_or None (number_if b n)) (never (nat_le from n) here)
  where
    never : (a : Bool) → set n ≡ false → (a && set n) ≡ false
    never true e = e
    never false e = refl
