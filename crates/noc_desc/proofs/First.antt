-- The first answer along two lists.
use Rattle.std.proofs.Common.{◌≡◌, List, [], ◌∷◌, ◌++◌, Option, Some, None, refl}
use Rattle.std.specs.Option.{option_or}
use Rattle.noc_desc.specs.Faults.{first_some}

either : {B : Type 0} (a b c : Option B) → option_or a (option_or b c) ≡ option_or (option_or a b) c
either None b c = refl
either (Some x) b c = refl

pub first_some_append : {A B : Type 0} (f : A → Option B) (xs ys : List A)
    → first_some f (xs ++ ys) ≡ option_or (first_some f xs) (first_some f ys)
first_some_append f [] ys = refl
first_some_append f (x ∷ xs) ys = rw (first_some_append f xs ys) (either (f x) _ _)
