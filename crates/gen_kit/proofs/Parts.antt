-- What items give, more items give.
use Rattle.std.proofs.Common.{List, [], ◌∷◌, ◌++◌}
use Rattle.std.specs.List.{AllByRecursion}
use Rattle.vl_tree.specs.Values.{Item}
use Rattle.vl_model.specs.Meaning.{Widths, Values}
use Rattle.vl_model.specs.Parts.{Holds, Gives}

pub held-front : {A : Type 0} (P : A → Type 0) (a b : List A) → AllByRecursion P (a ++ b) → AllByRecursion P a
held-front P [] b h = tt
held-front P (x ∷ a) b h = (h.0, held-front P a b h.1)

pub held-back : {A : Type 0} (P : A → Type 0) (a b : List A) → AllByRecursion P (a ++ b) → AllByRecursion P b
held-back P [] b h = h
held-back P (x ∷ a) b h = held-back P a b h.1

pub gives-more : (P : Widths → Values → Type 0) (a items b : List Item) → Gives items P → Gives (a ++ (items ++ b)) P
gives-more P a items b g w v h = g w v (held-front (Holds w v) items b (held-back (Holds w v) a (items ++ b) h))
