-- Counts at the start.
use Rattle.std.proofs.Common.{◌≡◌, ℕ, zero, suc, ◌≤◌, List, [], ◌∷◌, map, replicate, refl, ap, arith}
use Rattle.std.specs.Prelude.{slice_index_or}
use Rattle.vc_partition.specs.Lanes.{lane}

pub map-replicate : (f : ℕ → ℕ) (b : ℕ) (xs : List ℕ)
    → map (λ c. replicate c b) (map f xs) ≡ map (λ d. replicate (f d) b) xs
map-replicate f b [] = refl
map-replicate f b (x ∷ xs) = ap (λ ys. replicate (f x) b ∷ ys) (map-replicate f b xs)

replicate-within : (c b k : ℕ) → slice_index_or (replicate c b) k 0 ≤ b
replicate-within zero b k = omega arith
replicate-within (suc c) b zero = omega arith
replicate-within (suc c) b (suc k) = replicate-within c b k

pub full-within : (cs : List ℕ) (b d k : ℕ) → slice_index_or (lane (map (λ c. replicate c b) cs) d) k 0 ≤ b
full-within [] b d k = omega arith
full-within (c ∷ cs) b zero k = replicate-within c b k
full-within (c ∷ cs) b (suc d) k = full-within cs b d k
