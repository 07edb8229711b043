-- The first number that passes, step by step.
use Rattle.std.proofs.Common.{◌≡◌, ℕ, zero, suc, ◌+◌, ◌-◌, ◌<◌, Bool, true, false, ◌&&◌, ◌||◌, refl, ◌∙◌, ap, arith}
use Rattle.std.specs.Prelude.{Some, not, ◌==◌, if◌then◌else◌}
use Rattle.label_model.specs.Labels.{Label, sources, all_sources}
use Rattle.label_model.specs.Verdict.{first_of, depends, foreign_of}

first-step : (test : ℕ → Bool) (i n : ℕ) → i < n → first_of test i (n - i) ≡ (if test i then Some i else first_of test (i + 1) (n - (i + 1)))
first-step test i n lt = ap (first_of test i) (let more : n - i ≡ suc (n - (i + 1)) = omega (arith, lt) in more)

-- one that fails
pub first-later : (test : ℕ → Bool) (i n : ℕ) → i < n → test i ≡ false → first_of test i (n - i) ≡ first_of test (i + 1) (n - (i + 1))
first-later test i n lt is = first-step test i n lt ∙ ap (λ b. if b then Some i else first_of test (i + 1) (n - (i + 1))) is

-- one that passes
pub first-here : (test : ℕ → Bool) (i n : ℕ) → i < n → test i ≡ true → first_of test i (n - i) ≡ Some i
first-here test i n lt is = first-step test i n lt ∙ ap (λ b. if b then Some i else first_of test (i + 1) (n - (i + 1))) is

or-other : (a b : Bool) → (a || b) ≡ (b || a)
or-other true true = refl
or-other true false = refl
or-other false true = refl
or-other false false = refl

-- some bit depends on the domain where the bits together do
pub depends-is : (x : ℕ → Label) (e w : ℕ) → depends x e w ≡ all_sources x w e
depends-is x e zero = refl
depends-is x e (suc w) = ap (λ b. sources (x w) e || b) (depends-is x e w) ∙ or-other (sources (x w) e) (all_sources x w e)

abbrev by_depends : ℕ → (ℕ → Label) → ℕ → ℕ → Bool
by_depends own x w e = not (e == own) && depends x e w

abbrev by_sources : ℕ → (ℕ → Label) → ℕ → ℕ → Bool
by_sources own x w e = not (e == own) && all_sources x w e

same-test : (own : ℕ) (x : ℕ → Label) (w : ℕ) → by_depends own x w ≡ by_sources own x w
same-test own x w = λ k e. not (e == own) && depends-is x e w k

-- the least domain that is not the port's own, among those of all bits
pub foreign-is : (D own : ℕ) (x : ℕ → Label) (w : ℕ) → foreign_of D own x w ≡ first_of (by_sources own x w) 0 D
foreign-is D own x w = ap (λ test. first_of test 0 D) (same-test own x w)
