-- Ways by lists of coordinates, and ways by port numbers.
use Rattle.std.proofs.Common.{◌≡◌, ◌≢◌, ℕ, zero, suc, ◌+◌, ◌<◌, Bool, true, false, List, [], ◌∷◌, length, refl, sym, arith, if◌then◌else◌, ◌==◌}
use Rattle.std.specs.Prelude.{slice_index}
use Rattle.std.proofs.lemmas.Bool.Decides.{nat_tests}
use Rattle.noc_model.specs.Plan.{Plan}
use Rattle.noc_model.specs.declared.ways.Way.{Way}
use Rattle.noc_model.specs.declared.ways.Way.TheVariants.{Local, Plus, Minus}
use Rattle.noc_model.specs.Place.{way_of, way_from, goes_plus, is_wrap_way, is_wrap}

-- the first coordinate that differs decides
pub way-differs : (torus : Bool) (b i : ℕ) (ks xs ys : List ℕ) → i < length ks → length xs ≡ length ks
    → length ys ≡ length ks
    → ((j : ℕ) → j < i → slice_index xs j ≡ slice_index ys j) → slice_index xs i ≢ slice_index ys i
    → way_from torus b ks xs ys ≡ (if goes_plus torus (slice_index ks i) (slice_index xs i) (slice_index ys i) then Plus (b + i) else Minus (b + i))
way-differs torus b i [] xs ys there lx ly same other = absurd (omega arith)
way-differs torus b i (k ∷ ks) [] ys there lx ly same other = absurd (omega arith)
way-differs torus b i (k ∷ ks) (x ∷ xs) [] there lx ly same other = absurd (omega arith)
way-differs torus b zero (k ∷ ks) (x ∷ xs) (y ∷ ys) there lx ly same other =
    let no : (x == y) ≡ false = grind (arith, nat_tests) in
    let e : b + 0 ≡ b = omega arith in
    rw (no, e) refl
way-differs torus b (suc i) (k ∷ ks) (x ∷ xs) (y ∷ ys) there lx ly same other =
    let head : x ≡ y = same 0 (omega arith) in
    let yes : (x == y) ≡ true = grind (arith, nat_tests) in
    let e : b + suc i ≡ suc b + i = omega arith in
    rw (yes, e) (way-differs torus (suc b) i ks xs ys (omega arith) (omega arith) (omega arith) (λ j h. same (suc j) (omega arith)) other)

-- where no coordinate differs, the way is the local one
pub way-same : (torus : Bool) (b : ℕ) (ks xs ys : List ℕ) → length xs ≡ length ks → length ys ≡ length ks
    → ((j : ℕ) → j < length ks → slice_index xs j ≡ slice_index ys j) → way_from torus b ks xs ys ≡ Local
way-same torus b [] xs ys lx ly same = refl
way-same torus b (k ∷ ks) [] ys lx ly same = refl
way-same torus b (k ∷ ks) (x ∷ xs) [] lx ly same = refl
way-same torus b (k ∷ ks) (x ∷ xs) (y ∷ ys) lx ly same =
    let head : x ≡ y = same 0 (omega arith) in
    let yes : (x == y) ≡ true = grind (arith, nat_tests) in
    rw yes (way-same torus (suc b) ks xs ys (omega arith) (omega arith) (λ j h. same (suc j) (omega arith)))

-- ---- wrap links

mesh-way : (p : Plan) (n : ℕ) (w : Way) → p.torus ≡ false → is_wrap_way p n w ≡ false
mesh-way p n Local mesh = refl
mesh-way p n (Plus i) mesh = rw mesh refl
mesh-way p n (Minus i) mesh = rw mesh refl

-- a mesh has none
pub wrap-mesh : (p : Plan) (n port : ℕ) → p.torus ≡ false → false ≡ is_wrap p n port
unfolding is_wrap
wrap-mesh p n port mesh = sym (mesh-way p n (way_of port) mesh)
