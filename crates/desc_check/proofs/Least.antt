-- A search along a list gives the answer at the least place that has one, and two ranges overlap where an address is in both.
use Rattle.std.proofs.Common.{◌≡◌, ℕ, zero, suc, ◌+◌, ◌<◌, ◌≤◌, true, List, [], ◌∷◌, length, get_or, inl, inr, Option, Some, None, refl, ◌∙◌, subst, arith}
use Rattle.std.specs.Prelude.{nat_le, pos}
use Rattle.std.proofs.lemmas.Bool.{cases_lt}
use Rattle.std.proofs.lemmas.Bool.Decides.{nat_tests}
use Rattle.std.specs.Option.{option_or}
use Rattle.noc_desc.specs.declared.DescFault.{DescFault}
use Rattle.noc_desc.specs.declared.DraftRange.{DraftRange}
use Rattle.desc_check.specs.Words.{first_at}
use Rattle.desc_check.specs.Faults.{overlaps}

-- where the first answer along a list stands
pub record StandsFirst {A : Type 0} (f : ℕ → A → Option DescFault) (n : ℕ) (xs : List A) (fault : DescFault) (d : A) : Type 0 where
  pub place : ℕ
  pub within : place < length xs
  pub there : f (n + place) (get_or xs place d) ≡ Some fault
  pub none_before : (j : ℕ) → j < place → f (n + j) (get_or xs j d) ≡ None

here : {A : Type 0} (f : ℕ → A → Option DescFault) (n : ℕ) (x : A) (xs : List A) (fault : DescFault) (d : A)
    (a : Option DescFault) → f n x ≡ a → option_or a (first_at f (n + 1) xs) ≡ Some fault
    → (first_at f (n + 1) xs ≡ Some fault → StandsFirst f (n + 1) xs fault d) → StandsFirst f n (x ∷ xs) fault d
here {A} f n x xs fault d (Some found) e h rest =
    let same : n ≡ n + 0 = omega arith in
    record { place = 0; within = omega arith; there = subst (λ (m : ℕ). f m x ≡ Some fault) same (e ∙ h); none_before = λ j less. absurd (omega arith) }
here {A} f n x xs fault d None e h rest =
    let r = rest h in
    let at : n + 1 + r.place ≡ n + suc r.place = omega arith in
    record { place = suc r.place; within = (let in' = r.within in omega arith); there = subst (λ (m : ℕ). f m (get_or xs r.place d) ≡ Some fault) at r.there; none_before = earlier f n x xs d r.place e r.none_before }
  where
    earlier : {A : Type 0} (f : ℕ → A → Option DescFault) (n : ℕ) (x : A) (xs : List A) (d : A) (place : ℕ)
        → f n x ≡ None → ((j : ℕ) → j < place → f (n + 1 + j) (get_or xs j d) ≡ None) → (j : ℕ) → j < suc place
        → f (n + j) (get_or (x ∷ xs) j d) ≡ None
    earlier f n x xs d place e before zero less = let same : n ≡ n + 0 = omega arith in subst (λ (m : ℕ). f m x ≡ None) same e
    earlier f n x xs d place e before (suc j) less = let at : n + 1 + j ≡ n + suc j = omega arith in subst (λ (m : ℕ). f m (get_or xs j d) ≡ None) at (before j (omega arith))

pub stands_first : {A : Type 0} (f : ℕ → A → Option DescFault) (n : ℕ) (xs : List A) (fault : DescFault) (d : A)
    → first_at f n xs ≡ Some fault → StandsFirst f n xs fault d
stands_first f n [] fault d h = absurd cc
stands_first f n (x ∷ xs) fault d h = here f n x xs fault d (f n x) refl h (stands_first f (n + 1) xs fault d)

-- a range of these numbers
abbrev range : ℕ → ℕ → ℕ → DraftRange
range tile first last = record { tile = pos tile; first = pos first; last = pos last }

-- two ranges with addresses in order overlap exactly where an address is in both
pub in_both : (m n a b c e : ℕ) → a ≤ b → c ≤ e → overlaps (range m a b) (range n c e) ≡ true
    → (address : ℕ) × (a ≤ address) × (address ≤ b) × (c ≤ address) × (address ≤ e)
in_both m n a b c e up down h =
    let first : a ≤ e = grind (arith, nat_tests) in
    let second : c ≤ b = grind (arith, nat_tests) in
    elim (cases_lt a c) [ inl less ↦ (c, omega arith, second, omega arith, down) | inr more ↦ (a, omega arith, up, more, first) ]

pub overlap_of : (m n a b c e address : ℕ) → a ≤ address → address ≤ b → c ≤ address → address ≤ e
    → overlaps (range m a b) (range n c e) ≡ true
overlap_of m n a b c e address h k l o =
    let first : nat_le a e ≡ true = grind (arith, nat_tests) in
    let second : nat_le c b ≡ true = grind (arith, nat_tests) in
    rw (first, second) refl
