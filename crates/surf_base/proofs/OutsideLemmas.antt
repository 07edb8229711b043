-- Laws of what files and sinks mean.
use Rattle.std.proofs.Common.{◌≡◌, ℕ, ◌+◌, ◌≤◌, inl, inr, List, [], ◌++◌, length, take, drop, Option, Some, None, refl, ap, append_assoc, arith, length-append}
use Rattle.std.proofs.lemmas.Grind.{common_steps}
use Rattle.std.proofs.lemmas.List.{take-append-le, take_all, take_rest}
use Rattle.std.proofs.Math.Seq.{take-append-add, take-add}
use Rattle.std.specs.List.{slice_range}
use Rattle.surf_base.specs.Outside.{Rose, appended, GotPrefix}

-- a count that rose has risen also from a lower one, and to a greater one
pub Rose-wider : (a b c d : ℕ) → a ≤ b → c ≤ d → Rose b c → Rose a d
Rose-wider a b c d from to rose = elim rose [ inl less ↦ inl (omega arith) | inr end ↦ inr (omega arith) ]

-- two pieces, one after the other, are one
pub appended-append : (o : Option (List ℕ)) (xs ys : List ℕ) → appended (appended o xs) ys ≡ appended o (xs ++ ys)
appended-append None xs ys = refl
appended-append (Some had) xs ys = ap Some (append_assoc had xs ys)

-- no bytes change nothing
pub appended-nothing : (o : Option (List ℕ)) → appended o [] ≡ o
appended-nothing None = refl
appended-nothing (Some had) = grind (arith, common_steps)

-- a prefix of the front is one of the whole
pub GotPrefix-front : (old new : Option (List ℕ)) (xs ys : List ℕ) → GotPrefix old new xs → GotPrefix old new (xs ++ ys)
GotPrefix-front old new xs ys (k, within, is) =
    (k, omega (arith, length-append xs ys), rw take-append-le is)

-- what came after a front that was written whole
pub GotPrefix-after : (old mid new : Option (List ℕ)) (xs ys : List ℕ) → mid ≡ appended old xs → GotPrefix mid new ys
    → GotPrefix old new (xs ++ ys)
GotPrefix-after old mid new xs ys front (k, within, is) = (
  length xs + k,
  omega (arith, length-append xs ys),
  rw (take-append-add xs ys k, ← appended-append old xs (take k ys), ← front) is,
)

-- all of the bytes are a prefix of them
pub GotPrefix-whole : (old new : Option (List ℕ)) (xs : List ℕ) → new ≡ appended old xs → GotPrefix old new xs
GotPrefix-whole old new xs is = (length xs, omega arith, rw (take_all (length xs) xs (omega arith)) is)

-- no bytes are a prefix of all
pub GotPrefix-nothing : (old new : Option (List ℕ)) (xs : List ℕ) → new ≡ old → GotPrefix old new xs
GotPrefix-nothing old new xs is = (0, omega arith, rw appended-nothing is)

-- a written front and the piece after it are a longer front
pub appended-next : (old mid new : Option (List ℕ)) (xs : List ℕ) (done k : ℕ)
    → mid ≡ appended old (take done xs) → new ≡ appended mid (take k (slice_range xs done (length xs)))
    → new ≡ appended old (take (done + k) xs)
appended-next old mid new xs done k front next =
    rw (take-add done k xs, ← appended-append old (take done xs) (take k (drop done xs)), ← front, ← take_rest xs done) next
