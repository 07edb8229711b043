-- Sums over numbers below a bound, and sums that are matched with each other.
use Rattle.std.proofs.Common.{◌≡◌, ◌≢◌, ℕ, zero, suc, ◌+◌, ◌<◌, ◌⊎◌, inl, inr, Bool, true, false, Option, Some, None, refl, sym, ap, ◌∙◌, arith}
use Rattle.std.proofs.lemmas.Bool.Decides.{nat_tests}
use Rattle.noc_model.specs.Step.{is_place}

-- f 0 + f 1 and so on, below n
abbrev pub total : ℕ → (ℕ → ℕ) → ℕ
total zero f = 0
total (suc n) f = total n f + f n

pub total-same : (n : ℕ) (f g : ℕ → ℕ) → ((k : ℕ) → k < n → f k ≡ g k) → total n f ≡ total n g
total-same zero f g same = refl
total-same (suc n) f g same = omega (arith, total-same n f g (λ k less. same k (omega arith)), same n (omega arith))

pub total-none : (n : ℕ) (f : ℕ → ℕ) → ((k : ℕ) → k < n → f k ≡ 0) → total n f ≡ 0
total-none zero f none = refl
total-none (suc n) f none = omega (arith, total-none n f (λ k less. none k (omega arith)), none n (omega arith))

pub total-add : (n : ℕ) (f g : ℕ → ℕ) → total n (λ k. f k + g k) ≡ total n f + total n g
total-add zero f g = refl
total-add (suc n) f g = omega (arith, total-add n f g)

-- sums of rows and of columns
pub total-turned : (n m : ℕ) (f : ℕ → ℕ → ℕ) → total n (λ i. total m (f i)) ≡ total m (λ j. total n (λ i. f i j))
total-turned zero m f = sym (total-none m (λ j. 0) (λ k less. refl))
total-turned (suc n) m f = omega (arith, total-turned n m f, total-add m (λ j. total n (λ i. f i j)) (f n))

-- a number, where the test gives true
abbrev pub counted : Bool → ℕ → ℕ
counted true k = k
counted false k = 0

-- one member alone counts
pub total-one : (n j : ℕ) (f : ℕ → ℕ) → j < n → ((k : ℕ) → k < n → k ≢ j → f k ≡ 0) → total n f ≡ f j
total-one zero j f below none = absurd (omega arith)
total-one (suc n) j f below none = go order (λ less. total-one n j f less (λ k under other. none k (omega arith) other))
  where
    order : (j < n) ⊎ (j ≡ n)
    order = grind arith

    go : (j < n) ⊎ (j ≡ n) → (j < n → total n f ≡ f j) → total (suc n) f ≡ f j
    go (inl less) earlier = omega (arith, earlier less, none n (omega arith) (λ e. omega arith))
    go (inr same) earlier =
        let before : total n f ≡ 0 = total-none n f (λ k less. none k (omega arith) (λ e. omega arith)) in
        ap (λ k. k + f n) before ∙ (let at = ap f same in omega (arith, at))

-- what an optional number gives
abbrev pub at_some : Option ℕ → (ℕ → ℕ) → ℕ
at_some None f = 0
at_some (Some k) f = f k

is_place-other : (o : Option ℕ) (k j : ℕ) → o ≡ Some k → j ≢ k → is_place o j ≡ false
is_place-other None k j e other = absurd (cc e)
is_place-other (Some i) k j e other = let same : i ≡ k = cc in grind (arith, nat_tests)

is_place-same : (o : Option ℕ) (k : ℕ) → o ≡ Some k → is_place o k ≡ true
is_place-same None k e = absurd (cc e)
is_place-same (Some i) k e = let same : i ≡ k = cc in grind (arith, nat_tests)

pub is_place-some : (o : Option ℕ) (k : ℕ) → is_place o k ≡ true → o ≡ Some k
is_place-some None k e = absurd (cc e)
is_place-some (Some i) k e = let same : i ≡ k = grind (arith, nat_tests, e) in ap Some same

-- an optional number below n, as a sum over all below n
at_some-total : (n : ℕ) (o : Option ℕ) (f : ℕ → ℕ) → ((k : ℕ) → o ≡ Some k → k < n)
    → at_some o f ≡ total n (λ j. counted (is_place o j) (f j))
at_some-total n None f below = sym (total-none n (λ j. 0) (λ k less. refl))
at_some-total n (Some k) f below =
    sym (total-one n k (λ j. counted (is_place (Some k) j) (f j)) (below k refl) (λ j less other. ap (λ b. counted b (f j)) (is_place-other (Some k) k j refl other))
    ∙ ap (λ b. counted b (f k)) (is_place-same (Some k) k refl))

-- numbers below n are matched with numbers below m, each with one at most, and by both sides
pub record AreMatched (n m : ℕ) (to back : ℕ → Option ℕ) : Type 0 where
  pub there : (i j : ℕ) → i < n → to i ≡ Some j → (j < m) × (back j ≡ Some i)
  pub here : (i j : ℕ) → j < m → back j ≡ Some i → (i < n) × (to i ≡ Some j)

both-ways : (a b : Bool) → (a ≡ true → b ≡ true) → (b ≡ true → a ≡ true) → a ≡ b
both-ways true b f g = sym (f refl)
both-ways false true f g = g refl
both-ways false false f g = refl

-- the sums over both sides are the same
pub total-matched : (n m : ℕ) (to back : ℕ → Option ℕ) (v : ℕ → ℕ → ℕ) → AreMatched n m to back
    → total n (λ i. at_some (to i) (v i)) ≡ total m (λ j. at_some (back j) (λ i. v i j))
total-matched n m to back v matched =
    total-same n (λ i. at_some (to i) (v i)) (λ i. total m (λ j. counted (is_place (to i) j) (v i j)))
    (λ i less. at_some-total m (to i) (v i) (λ k e. (matched.there i k less e).0))
    ∙ total-turned n m (λ i j. counted (is_place (to i) j) (v i j))
    ∙ total-same m (λ j. total n (λ i. counted (is_place (to i) j) (v i j))) (λ j. at_some (back j) (λ i. v i j))
    (λ j under.
    total-same n (λ i. counted (is_place (to i) j) (v i j)) (λ i. counted (is_place (back j) i) (v i j))
    (λ i less. ap (λ b. counted b (v i j)) (both-ways (is_place (to i) j) (is_place (back j) i)
    (λ e. is_place-same (back j) i (matched.there i j less (is_place-some (to i) j e)).1)
    (λ e. is_place-same (to i) j (matched.here i j under (is_place-some (back j) i e)).1)))
    ∙ sym (at_some-total n (back j) (λ i. v i j) (λ k e. (matched.here k j under e).0)))
