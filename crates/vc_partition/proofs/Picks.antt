-- The round-robin choice of a set is had from its members in any order: each is compared with the best so far.
use Rattle.std.proofs.Common.{◌≡◌, ℕ, zero, suc, ◌<◌, ◌≤◌, Bool, true, false, List, [], ◌∷◌, length, refl, sym, ◌∙◌, ap, arith, ⊎_elim}
use Rattle.std.specs.Prelude.{IfNone, Option, Some, None, nat_le, nat_lt, ◌==◌, ◌&&◌, ◌||◌, if◌then◌else◌}
use Rattle.std.specs.Option.{option_or}
use Rattle.std.proofs.lemmas.Bool.{cases_lt, lt-ltb}
use Rattle.std.proofs.lemmas.Bool.Decides.{nat_tests}
use Rattle.noc_model.specs.Pick.{least, number_if, pick}
use Rattle.noc_model.proofs.Least.{least-member, least-same}
use Rattle.std.proofs.Math.Dec.{leb-zero}
use Rattle.vc_partition.specs.Picks.{better, with_member, member, from_on}

none-here : (b : Bool) (n : ℕ) → number_if b n ≡ None → b ≡ false
none-here true n e = absurd (cc e)
none-here false n e = refl

none-both : (o p : Option ℕ) → option_or o p ≡ None → (o ≡ None) × (p ≡ None)
none-both None p e = (refl, e)
none-both (Some k) p e = absurd (cc e)

pub least-none : (n : ℕ) (set : ℕ → Bool) (k : ℕ) → least n set ≡ None → k < n → set k ≡ false
least-none zero set k none less = absurd (omega (arith, less))
least-none (suc n) set k none less =
    let both = none-both (least n set) (number_if (set n) n) none in
    ⊎_elim (λ (before : k < n). least-none n set k both.0 before)
    (λ (last : n ≤ k). let e : n ≡ k = omega (arith, less, last) in ap set (sym e) ∙ none-here (set n) n both.1)
    (cases_lt k n)

-- the lesser of the two
abbrev lesser : Option ℕ → ℕ → Option ℕ
lesser None m = Some m
lesser (Some k) m = Some (if nat_lt m k then m else k)

step-before : (o : Option ℕ) (b c : Bool) (n m : ℕ) → m < n
    → option_or (lesser o m) (number_if c n) ≡ lesser (option_or o (number_if b n)) m
step-before None false c n m less = refl
step-before None true c n m less = ap (λ t. Some (if t then m else n)) (sym (lt-ltb m n less))
step-before (Some k) b c n m less = refl

step-last : (o : Option ℕ) (b : Bool) (n m : ℕ) → n ≡ m → ((k : ℕ) → o ≡ Some k → k < n)
    → option_or o (Some n) ≡ lesser (option_or o (number_if b n)) m
step-last None false n m e h = ap Some e
step-last None true n m e h = let t : nat_lt m n ≡ false = grind (arith, nat_tests) in ap (λ t. Some (if t then m else n)) (sym t)
step-last (Some k) b n m e h = let less = h k refl in let t : nat_lt m k ≡ false = grind (arith, nat_tests) in ap (λ t. Some (if t then m else k)) (sym t)

or-false : (a : Bool) → (a || false) ≡ a
or-false true = refl
or-false false = refl

or-true : (a : Bool) → (a || true) ≡ true
or-true true = refl
or-true false = refl

pub least-insert : (n : ℕ) (set : ℕ → Bool) (m : ℕ) → m < n → least n (with_member set m) ≡ lesser (least n set) m
least-insert zero set m less = absurd (omega (arith, less))
least-insert (suc n) set m less = ⊎_elim
    (λ (before : m < n).
    ap (λ o. option_or o (number_if (with_member set m n) n)) (least-insert n set m before)
    ∙ step-before (least n set) (set n) (with_member set m n) n m before)
    (λ (last : n ≤ m).
    let e : n ≡ m = omega (arith, less, last) in
    let same : least n (with_member set m) ≡ least n set = least-same n (with_member set m) set
    (λ k below. let t : (k == m) ≡ false = grind (arith, nat_tests) in ap (λ w. set k || w) t ∙ or-false (set k)) in
    let is : with_member set m n ≡ true = let t : (n == m) ≡ true = grind (arith, nat_tests) in ap (λ w. set n || w) t ∙ or-true (set n) in
    ap (λ o. option_or o (number_if (with_member set m n) n)) same
    ∙ ap (λ b. option_or (least n set) (number_if b n)) is
    ∙ step-last (least n set) (set n) n m e (λ k at. (least-member n set k at).0))
    (cases_lt m n)

-- the members from the pointer on
abbrev later : ℕ → (ℕ → Bool) → ℕ → Bool
later pointer set k = nat_le pointer k && set k

later-in : (a s e : Bool) → (e ≡ true → a ≡ true) → (a && (s || e)) ≡ ((a && s) || e)
later-in true s e h = refl
later-in false s true h = absurd (let w = h refl in cc w)
later-in false s false h = refl

later-out : (a s e : Bool) → (e ≡ true → a ≡ false) → (a && (s || e)) ≡ (a && s)
later-out true s true h = absurd (let w = h refl in cc w)
later-out true s false h = or-false s
later-out false s e h = refl

-- a member from the pointer on
insert-late : (pointer m : ℕ) (l f : Option ℕ) → pointer ≤ m → ((k : ℕ) → l ≡ Some k → pointer ≤ k)
    → ((k : ℕ) → l ≡ None → f ≡ Some k → k < pointer)
    → option_or (lesser l m) (lesser f m) ≡ better pointer (option_or l f) m
insert-late pointer m (Some k) f late h h' =
    let there = h k refl in
    let a : nat_le pointer m ≡ true = grind (arith, nat_tests) in
    let b : nat_lt k pointer ≡ false = grind (arith, nat_tests) in
    sym (ap (λ t. Some (if (if t then (nat_lt k pointer || nat_lt m k) else (nat_lt k pointer && nat_lt m k)) then m else k)) a
    ∙ ap (λ t. Some (if (t || nat_lt m k) then m else k)) b)
insert-late pointer m None None late h h' = refl
insert-late pointer m None (Some k) late h h' =
    let there = h' k refl refl in
    let a : nat_le pointer m ≡ true = grind (arith, nat_tests) in
    let b : nat_lt k pointer ≡ true = grind (arith, nat_tests) in
    sym (ap (λ t. Some (if (if t then (nat_lt k pointer || nat_lt m k) else (nat_lt k pointer && nat_lt m k)) then m else k)) a
    ∙ ap (λ t. Some (if (t || nat_lt m k) then m else k)) b)

-- a member before the pointer
insert-early : (pointer m : ℕ) (l f : Option ℕ) → m < pointer → ((k : ℕ) → l ≡ Some k → pointer ≤ k)
    → ((k : ℕ) → l ≡ None → f ≡ Some k → k < pointer)
    → option_or l (lesser f m) ≡ better pointer (option_or l f) m
insert-early pointer m (Some k) f early h h' =
    let there = h k refl in
    let a : nat_le pointer m ≡ false = grind (arith, nat_tests) in
    let b : nat_lt k pointer ≡ false = grind (arith, nat_tests) in
    sym (ap (λ t. Some (if (if t then (nat_lt k pointer || nat_lt m k) else (nat_lt k pointer && nat_lt m k)) then m else k)) a
    ∙ ap (λ t. Some (if (t && nat_lt m k) then m else k)) b)
insert-early pointer m None None early h h' = refl
insert-early pointer m None (Some k) early h h' =
    let there = h' k refl refl in
    let a : nat_le pointer m ≡ false = grind (arith, nat_tests) in
    let b : nat_lt k pointer ≡ true = grind (arith, nat_tests) in
    sym (ap (λ t. Some (if (if t then (nat_lt k pointer || nat_lt m k) else (nat_lt k pointer && nat_lt m k)) then m else k)) a
    ∙ ap (λ t. Some (if (t && nat_lt m k) then m else k)) b)

and-first : (a b : Bool) → (a && b) ≡ true → a ≡ true
and-first true b e = refl
and-first false b e = absurd (cc e)

late-are : (n : ℕ) (set : ℕ → Bool) (pointer k : ℕ) → least n (later pointer set) ≡ Some k → pointer ≤ k
late-are n set pointer k e =
    let in_set = (least-member n (later pointer set) k e).1 in
    let t = and-first (nat_le pointer k) (set k) in_set in
    grind (arith, nat_tests)

early-are : (n : ℕ) (set : ℕ → Bool) (pointer k : ℕ) → least n (later pointer set) ≡ None → least n set ≡ Some k
    → k < pointer
early-are n set pointer k none e =
    let found = least-member n set k e in
    let out = least-none n (later pointer set) k none found.0 in
    let not_late : nat_le pointer k ≡ false = and-out (nat_le pointer k) (set k) found.1 out in
    grind (arith, nat_tests)
  where
    and-out : (a b : Bool) → b ≡ true → (a && b) ≡ false → a ≡ false
    and-out true b is e = absurd (let w = sym is ∙ e in cc w)
    and-out false b is e = refl

-- the choice of a set with one member more is the better of the choice of the set and that member
pub pick-insert : (n : ℕ) (set : ℕ → Bool) (pointer m : ℕ) → m < n
    → pick n (with_member set m) pointer ≡ better pointer (pick n set pointer) m
unfolding pick
pick-insert n set pointer m less =
    let all = least-insert n set m less in
    let late : (k : ℕ) → least n (later pointer set) ≡ Some k → pointer ≤ k = late-are n set pointer in
    let early : (k : ℕ) → least n (later pointer set) ≡ None → least n set ≡ Some k → k < pointer =
    early-are n set pointer in
    ⊎_elim
    (λ (before : m < pointer).
    let same : least n (later pointer (with_member set m)) ≡ least n (later pointer set) = least-same n (later pointer (with_member set m)) (later pointer set)
    (λ k below. later-out (nat_le pointer k) (set k) (k == m) (λ t. grind (arith, nat_tests))) in
    ap (λ o. option_or o (least n (with_member set m))) same ∙ ap (λ o. option_or (least n (later pointer set)) o) all
    ∙ insert-early pointer m (least n (later pointer set)) (least n set) before late early)
    (λ (after : pointer ≤ m).
    let same : least n (later pointer (with_member set m)) ≡ lesser (least n (later pointer set)) m =
    least-same n (later pointer (with_member set m)) (with_member (later pointer set) m)
    (λ k below. later-in (nat_le pointer k) (set k) (k == m) (λ t. grind (arith, nat_tests)))
    ∙ least-insert n (later pointer set) m less in
    ap (λ o. option_or o (least n (with_member set m))) same
    ∙ ap (λ o. option_or (lesser (least n (later pointer set)) m) o) all
    ∙ insert-late pointer m (least n (later pointer set)) (least n set) after late early)
    (cases_lt m pointer)

-- ---- a search through a list

option-some : (o p : Option ℕ) (k : ℕ) → o ≡ Some k → option_or o p ≡ Some k
option-some o p k e = rw e refl

-- the least member is the first that is found
pub least-found : (f : ℕ → Bool) (n k : ℕ) → k < n → least k f ≡ None → f k ≡ true → least n f ≡ Some k
least-found f zero k below none member = absurd (omega arith)
least-found f (suc n) k below none member = ⊎_elim
    (λ (less : k < n). option-some (least n f) (number_if (f n) n) k (least-found f n k less none member))
    (λ (more : n ≤ k). let e : n ≡ k = omega arith in rw (e, none, member) refl)
    (cases_lt k n)

all-from_zero : (n : ℕ) (set : ℕ → Bool) → least n (from_on 0 set) ≡ least n set
all-from_zero n set = least-same n (from_on 0 set) set (λ k less. ap (λ b. b && set k) (leb-zero k))

-- what is found from the pointer on is picked
pub pick-later : (n : ℕ) (set : ℕ → Bool) (pointer k : ℕ) → Some k ≡ least n (from_on pointer set)
    → Some k ≡ pick n set pointer
unfolding pick
pick-later n set pointer k e = sym (option-some (least n (from_on pointer set)) (least n set) k (sym e))

-- where nothing is, the least member is picked
pub pick-first : (n : ℕ) (set : ℕ → Bool) (pointer : ℕ) (o : Option ℕ) → None ≡ least n (from_on pointer set)
    → o ≡ least n (from_on 0 set) → o ≡ pick n set pointer
unfolding pick
pick-first n set pointer o none e = e ∙ all-from_zero n set ∙ sym (ap (λ x. option_or x (least n set)) (sym none))

beyond-false : (set : List Bool) (k : ℕ) → length set ≤ k → member set k ≡ false
beyond-false [] k past = refl
beyond-false (b ∷ bs) zero past = absurd (omega (arith, past))
beyond-false (b ∷ bs) (suc k) past = beyond-false bs k (omega (arith, past))

-- where the search from 0 on finds nothing, no place has true
pub none-there : (set : List Bool) (o : Option ℕ) → o ≡ least (length set) (from_on 0 (member set))
    → IfNone o ((k : ℕ) → member set k ≡ false)
none-there set (Some k) e = tt
none-there set None e = λ k. ⊎_elim
    (λ (below : k < length set). least-none (length set) (member set) k (sym (all-from_zero (length set) (member set)) ∙ sym e) below)
    (λ (past : length set ≤ k). beyond-false set k past)
    (cases_lt k (length set))
