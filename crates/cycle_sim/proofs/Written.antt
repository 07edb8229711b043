-- Reads of a list in which one place was written.
use Rattle.std.proofs.Common.{◌≡◌, ◌≢◌, ℕ, zero, suc, ◌<◌, List, [], ◌∷◌, length, set, refl, ap, arith, Some}
use Rattle.std.specs.Prelude.{slice_get}

pub get-set_same : {X : Type 0} (xs : List X) (n : ℕ) (y : X) → n < length xs → slice_get (set xs n y) n ≡ Some y
get-set_same [] n y less = absurd (omega arith)
get-set_same (x ∷ xs) zero y less = refl
get-set_same (x ∷ xs) (suc n) y less = get-set_same xs n y (omega arith)

pub get-set_other : {X : Type 0} (xs : List X) (n k : ℕ) (y : X) → k ≢ n → slice_get (set xs n y) k ≡ slice_get xs k
get-set_other [] n k y apart = refl
get-set_other (x ∷ xs) zero zero y apart = absurd (apart refl)
get-set_other (x ∷ xs) zero (suc k) y apart = refl
get-set_other (x ∷ xs) (suc n) zero y apart = refl
get-set_other (x ∷ xs) (suc n) (suc k) y apart = get-set_other xs n k y (λ e. apart (ap suc e))

pub get-below : {X : Type 0} (xs : List X) (k : ℕ) (x : X) → slice_get xs k ≡ Some x → k < length xs
get-below [] k x e = absurd (cc e)
get-below (y ∷ xs) zero x e = omega arith
get-below (y ∷ xs) (suc k) x e = let less = get-below xs k x e in omega (arith, less)

pub same-read : {X : Type 0} (x y : X) → Some x ≡ Some y → x ≡ y
same-read x y e = cc e

pub record-at : {X : Type 0} (xs : List X) (k : ℕ) → k < length xs → (x : X) × (slice_get xs k ≡ Some x)
record-at [] k less = absurd (omega (arith, less))
record-at (x ∷ xs) zero less = (x, refl)
record-at (x ∷ xs) (suc k) less = record-at xs k (omega (arith, less))
