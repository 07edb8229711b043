-- Names in rising order of rank: so each stands once.
use Rattle.std.proofs.Common.{◌≡◌, ℕ, zero, suc, ◌+◌, ◌<◌, ◌≤◌, List, [], ◌∷◌, ◌++◌, map, refl, sym, subst, arith, bytes_eq, cond}
use Rattle.std.specs.Prelude.{Some, flat_map}
use Rattle.std.specs.List.{AllByRecursion}
use Rattle.vl_tree.specs.declared.tree.Port.{Port}
use Rattle.vl_tree.specs.Values.{Name}
use Rattle.vl_model.specs.Lines.{port_named}
use Rattle.vl_model.proofs.Settling.{itself}
use Rattle.vl_model.proofs.Passed.{all-map}
use Rattle.vl_model.proofs.One.{all-both}
use Rattle.noc_model.specs.Events.{tabulate}
use Rattle.shape_sound.proofs.Keyed.{rank, other}

-- the names have ranks from low on, below high, each higher than those before
abbrev pub Rises : ℕ → ℕ → List Name → Type 0
Rises low high [] = low ≤ high
Rises low high (n ∷ ns) = (low ≤ rank n) × Rises (rank n + 1) high ns

-- ---- how they are put together

pub lower : (low more high : ℕ) (ns : List Name) → low ≤ more → Rises more high ns → Rises low high ns
lower low more high [] le r = omega (arith, le, r)
lower low more high (n ∷ ns) le r = ((let first = r.0 in omega (arith, first, le)), r.1)

pub higher : (low high more : ℕ) (ns : List Name) → high ≤ more → Rises low high ns → Rises low more ns
higher low high more [] le r = omega (arith, le, r)
higher low high more (n ∷ ns) le r = (r.0, higher (rank n + 1) high more ns le r.1)

pub joined : (low middle high : ℕ) (a b : List Name) → Rises low middle a → Rises middle high b → Rises low high (a ++ b)
joined low middle high [] b x y = lower low middle high b x y
joined low middle high (n ∷ ns) b x y = (x.0, joined (rank n + 1) middle high ns b x.1 y)

-- one name, and what follows
pub next : (low r high : ℕ) (n : Name) (ns : List Name) → rank n ≡ r → low ≤ r → Rises (r + 1) high ns → Rises low high (n ∷ ns)
next low r high n ns e le more = subst (λ k. (low ≤ k) × Rises (k + 1) high ns) (sym e) (le, more)

-- a family, with the bounds between its parts
pub each : (s : ℕ → ℕ) (k : ℕ) (f : ℕ → List Name) (g : ℕ → ℕ) → ((i : ℕ) → i < k → Rises (s i) (s (suc i)) (f (g i))) → Rises (s 0) (s k) (flat_map f (tabulate k g))
each s zero f g h = omega arith
each s (suc k) f g h =
    joined (s 0) (s 1) (s (suc k)) (f (g 0)) (flat_map f (tabulate k (λ i. g (suc i)))) (h 0 (omega arith))
    (each (λ i. s (suc i)) k f (λ i. g (suc i)) (λ i below. h (suc i) (omega arith)))

-- ---- each stands once

pub above : (low high : ℕ) (ns : List Name) → Rises low high ns → AllByRecursion (λ n. low ≤ rank n) ns
above low high [] r = tt
above low high (n ∷ ns) r = (r.0, all-map (λ m. rank n + 1 ≤ rank m) (λ m. low ≤ rank m) (λ m le. (let first = r.0 in omega (arith, first, le))) ns (above (rank n + 1) high ns r.1))

abbrev pub count : Name → List Name → ℕ
count x [] = 0
count x (n ∷ ns) = cond (bytes_eq x n) 1 0 + count x ns

pub count-below : (low high : ℕ) (ns : List Name) (x : Name) → Rises low high ns → rank x < low → count x ns ≡ 0
count-below low high [] x r less = refl
count-below low high (n ∷ ns) x r less =
    let first = r.0 in
    let apart = other x n (λ same. omega (arith, first, less, same)) in
    let rest = count-below (rank n + 1) high ns x r.1 (omega (arith, first, less)) in
    rw (apart, rest) refl

pub count-one : (low high : ℕ) (ns : List Name) → Rises low high ns → AllByRecursion (λ x. count x ns ≡ 1) ns
count-one low high [] r = tt
count-one low high (n ∷ ns) r =
    let self = itself n in
    let none = count-below (rank n + 1) high ns n r.1 (omega arith) in (
      rw (self, none) refl,
      all-both (λ x. rank n + 1 ≤ rank x) (λ x. count x ns ≡ 1) (λ x. count x (n ∷ ns) ≡ 1) (λ x le one. (let apart = other x n (λ same. omega (arith, le, same)) in rw (apart, one) refl)) ns
          (above (rank n + 1) high ns r.1) (count-one (rank n + 1) high ns r.1),
    )

-- each port is the first of its name
pub port-found : (low high : ℕ) (ps : List Port) → Rises low high (map (λ (q : Port). q.name) ps) → AllByRecursion (λ (q : Port). port_named ps q.name ≡ Some q) ps
port-found low high [] r = tt
port-found low high (q ∷ ps) r =
    let self = itself q.name in (
      rw self refl,
      all-both (λ (x : Port). rank q.name + 1 ≤ rank x.name) (λ (x : Port). port_named ps x.name ≡ Some x) (λ (x : Port). port_named (q ∷ ps) x.name ≡ Some x)
          (λ x le found. (let apart = other x.name q.name (λ same. omega (arith, le, same)) in rw apart found)) ps
          (names-above ps (above (rank q.name + 1) high (map (λ (x : Port). x.name) ps) r.1)) (port-found (rank q.name + 1) high ps r.1),
    )
  where
    names-above : (xs : List Port) → AllByRecursion (λ n. rank q.name + 1 ≤ rank n) (map (λ (x : Port). x.name) xs) → AllByRecursion (λ (x : Port). rank q.name + 1 ≤ rank x.name) xs
    names-above [] a = tt
    names-above (x ∷ xs) a = (a.0, names-above xs a.1)
