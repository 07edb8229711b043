-- What holds of each element of a list that is numbered, mapped, joined or filtered.
use Rattle.std.proofs.Common.{◌≡◌, ℕ, zero, suc, ◌<◌, Bool, true, false, ◌&&◌, List, [], ◌∷◌, map, refl, ◌∙◌, ap, arith}
use Rattle.std.specs.Prelude.{filter, flat_map, if◌then◌else◌}
use Rattle.std.specs.List.{AllByRecursion, list_all}
use Rattle.noc_model.specs.Events.{tabulate}
use Rattle.gen_kit.proofs.Parts.{held-front, held-back}
use Rattle.vl_model.proofs.Together.{all-join}

-- of the number n below k
pub at-number : {A : Type 0} (P : A → Type 0) (k : ℕ) (f : ℕ → A) → AllByRecursion P (tabulate k f) → (n : ℕ) → n < k → P (f n)
at-number P zero f all n below = absurd (omega arith)
at-number P (suc k) f all zero below = all.0
at-number P (suc k) f all (suc n) below = at-number P k (λ i. f (suc i)) all.1 n (omega arith)

pub to-numbers : {A : Type 0} (P : A → Type 0) (k : ℕ) (f : ℕ → A) → ((n : ℕ) → n < k → P (f n)) → AllByRecursion P (tabulate k f)
to-numbers P zero f all = tt
to-numbers P (suc k) f all = (all 0 (omega arith), to-numbers P k (λ i. f (suc i)) (λ n below. all (suc n) (omega (arith, below))))

pub of-mapped : {A B : Type 0} (P : B → Type 0) (f : A → B) (xs : List A) → AllByRecursion P (map f xs) → AllByRecursion (λ x. P (f x)) xs
of-mapped P f [] all = tt
of-mapped P f (x ∷ xs) all = (all.0, of-mapped P f xs all.1)

pub to-mapped : {A B : Type 0} (P : B → Type 0) (f : A → B) (xs : List A) → AllByRecursion (λ x. P (f x)) xs → AllByRecursion P (map f xs)
to-mapped P f [] all = tt
to-mapped P f (x ∷ xs) all = (all.0, to-mapped P f xs all.1)

pub of-joined : {A B : Type 0} (P : B → Type 0) (f : A → List B) (xs : List A) → AllByRecursion P (flat_map f xs) → AllByRecursion (λ x. AllByRecursion P (f x)) xs
of-joined P f [] all = tt
of-joined P f (x ∷ xs) all = (held-front P (f x) (flat_map f xs) all, of-joined P f xs (held-back P (f x) (flat_map f xs) all))

pub to-joined : {A B : Type 0} (P : B → Type 0) (f : A → List B) (xs : List A) → AllByRecursion (λ x. AllByRecursion P (f x)) xs → AllByRecursion P (flat_map f xs)
to-joined P f [] all = tt
to-joined P f (x ∷ xs) all = all-join P (f x) (flat_map f xs) all.0 (to-joined P f xs all.1)

-- those that pass the test have it too
pub of-filtered : {A : Type 0} (P Q : A → Type 0) (test : A → Bool) → ((x : A) → test x ≡ true → P x → Q x) → (xs : List A) → AllByRecursion P xs → AllByRecursion Q (filter test xs)
of-filtered P Q test f [] all = tt
of-filtered P Q test f (x ∷ xs) all = go (test x) refl (of-filtered P Q test f xs all.1)
  where
    go : (b : Bool) → test x ≡ b → AllByRecursion Q (filter test xs) → AllByRecursion Q (if b then x ∷ filter test xs else filter test xs)
    go true e rest = (f x e all.0, rest)
    go false e rest = rest

pub all-true : {A : Type 0} (test : A → Bool) (xs : List A) → AllByRecursion (λ x. test x ≡ true) xs → list_all test xs ≡ true
all-true test [] all = refl
all-true test (x ∷ xs) all = ap (λ b. b && list_all test xs) all.0 ∙ all-true test xs all.1
