-- Words that are written are within bounds.
use Rattle.std.proofs.Common.{◌≡◌, ℕ, zero, suc, ◌<◌, ◌≤◌, Bool, true, false, List, [], ◌∷◌, length, get_or, set, refl, arith, eqb-true}
use Rattle.std.specs.Prelude.{◌==◌, if◌then◌else◌}
use Rattle.std.specs.List.{AllByRecursion}
use Rattle.vl_tree.specs.Values.{Name}
use Rattle.aig_cycle.specs.Short.{lengths, Bounds, IsWithin}
use Rattle.aig_cycle.proofs.Shorter.{lengths-set}

pub all-at : {A : Type 0} (P : A → Type 0) (xs : List A) (i : ℕ) (d : A) → i < length xs → AllByRecursion P xs → P (get_or xs i d)
all-at P [] i d lt h = absurd (omega (arith, lt))
all-at P (x ∷ xs) zero d lt h = h.0
all-at P (x ∷ xs) (suc i) d lt h = all-at P xs i d (omega (arith, lt)) h.1

pub within-write : (b : Bounds) (ws : List (List ℕ)) (i : ℕ) (w : List ℕ) → ((n : Name) → b.known n ≡ true → b.place n ≡ i → length w ≤ b.most n) → IsWithin b (lengths ws) → IsWithin b (lengths (set ws i w))
within-write b ws i w le a n k = go (b.place n == i) refl (lengths-set ws i w (length w) (omega arith) (b.place n))
  where
    go : (t : Bool) → (b.place n == i) ≡ t → lengths (set ws i w) (b.place n) ≤ (if t then length w else lengths ws (b.place n)) → lengths (set ws i w) (b.place n) ≤ b.most n
    go true e h = let l = le n k (eqb-true (b.place n) i e) in omega (arith, h, l)
    go false e h = let l = a n k in omega (arith, h, l)
