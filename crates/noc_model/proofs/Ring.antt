-- One side of the network: which way a packet goes, its class, and how far along it is.
use Rattle.std.proofs.Common.{◌≡◌, ◌≢◌, ℕ, zero, suc, ◌+◌, ◌-◌, ◌*◌, ◌%◌, ◌<◌, ◌≤◌, ◌⊎◌, inl, inr, Bool, true, false, refl, ◌∙◌, arith, ◌&&◌}
use Rattle.std.specs.Prelude.{nat_lt, if◌then◌else◌}
use Rattle.std.proofs.Math.Nat.{mod-eq_of_lt, add-mul-mod_self_left, mod_self}
use Rattle.std.proofs.lemmas.Bool.Decides.{nat_tests}
use Rattle.noc_model.specs.Place.{next_in, last_in, goes_plus, position, are_edges}

-- how far it is by plus
pub gap : (k x y : ℕ) → x < k → y < k
    → ((x ≤ y) × ((y + k - x) % k ≡ y - x)) ⊎ ((y < x) × ((y + k - x) % k ≡ y + k - x))
gap k x y hx hy = go order
  where
    order : (x ≤ y) ⊎ (y < x)
    order = grind arith

    go : (x ≤ y) ⊎ (y < x) → ((x ≤ y) × ((y + k - x) % k ≡ y - x)) ⊎ ((y < x) × ((y + k - x) % k ≡ y + k - x))
    go (inl le) =
        let e : y + k - x ≡ (y - x) + k * 1 = omega arith in
        let small : y - x < k = omega arith in
        inl (le, rw e (add-mul-mod_self_left (y - x) k 1 ∙ mod-eq_of_lt small))
    go (inr lt) = let small : y + k - x < k = omega arith in inr (lt, mod-eq_of_lt small)

-- a packet that goes on by plus keeps to it, or is there
pub plus-kept : (torus : Bool) (k x y : ℕ) → x < k → y < k → x ≢ y → goes_plus torus k x y ≡ true
    → (torus ≡ false → x + 1 < k)
    → (next_in k x ≡ y) ⊎ (goes_plus torus k (next_in k x) y ≡ true)
plus-kept torus k x y hx hy differ g edge = grind (arith, nat_tests, gap)

pub minus-kept : (torus : Bool) (k x y : ℕ) → x < k → y < k → x ≢ y → goes_plus torus k x y ≡ false
    → (torus ≡ false → 0 < x)
    → (last_in k x ≡ y) ⊎ (goes_plus torus k (last_in k x) y ≡ false)
minus-kept torus k x y hx hy differ g edge = grind (arith, nat_tests, gap)

-- in class 1 the edge lies behind
pub plus-behind : (torus : Bool) (k x y c : ℕ) → x < k → y < k → x ≢ y → (torus ≡ false → x + 1 < k) → (c ≡ 1 → x ≤ y)
    → (if torus && (nat_lt 1 k && are_edges k x (next_in k x)) then 1 else c) ≡ 1 → next_in k x ≤ y
plus-behind torus k x y c hx hy differ edge behind e = grind (arith, nat_tests)

pub minus-behind : (torus : Bool) (k x y c : ℕ) → x < k → y < k → x ≢ y → (torus ≡ false → 0 < x) → (c ≡ 1 → y ≤ x)
    → (if torus && (nat_lt 1 k && are_edges k x (last_in k x)) then 1 else c) ≡ 1 → y ≤ last_in k x
minus-behind torus k x y c hx hy differ edge behind e = grind (arith, nat_tests)

pub next-mod : (k x : ℕ) → x < k → (x + 1) % k ≡ next_in k x
next-mod k x hx = go order
  where
    order : (x + 1 < k) ⊎ (x + 1 ≡ k)
    order = grind arith

    go : (x + 1 < k) ⊎ (x + 1 ≡ k) → (x + 1) % k ≡ next_in k x
    go (inl lt) = let e : (x + 1) % k ≡ x + 1 = mod-eq_of_lt lt in grind (arith, nat_tests)
    go (inr eq) = let e : (x + 1) % k ≡ 0 = rw eq (mod_self k) in grind (arith, nat_tests)

-- a position is on the side
pub position-below : (k x c : ℕ) → x < k → position k x c < k
position-below k x c hx = let e = next-mod k x hx in grind (arith, nat_tests)

-- from position x on to x', with b where the next link is a wrap link
rises : (b : Bool) (k x x' c i : ℕ) → x < k → x' < k → k ≤ 16 → c ≤ 1 → (c ≡ 0 → x' ≡ x + 1)
    → (c ≡ 1 → ((x + 1) % k ≡ x') × (x' + 1 < k))
    → (2 * i + c) * 16 + position k x c < (2 * i + (if b then 1 else c)) * 16 + position k x' (if b then 1 else c)
rises true k x x' zero i hx hx' small low straight behind = omega arith
rises false k x x' zero i hx hx' small low straight behind = let e = straight refl in omega arith
rises b k x x' (suc (suc c)) i hx hx' small low straight behind = absurd (omega arith)
rises true k x x' (suc zero) i hx hx' small low straight behind = one k x x' i (behind refl)
  where
    one : (k x x' i : ℕ) → ((x + 1) % k ≡ x') × (x' + 1 < k)
        → (2 * i + 1) * 16 + (x + 1) % k < (2 * i + 1) * 16 + (x' + 1) % k
    one k x x' i h = let e : (x' + 1) % k ≡ x' + 1 = mod-eq_of_lt h.1 in rw (h.0, e) (omega arith)
rises false k x x' (suc zero) i hx hx' small low straight behind = one k x x' i (behind refl)
  where
    one : (k x x' i : ℕ) → ((x + 1) % k ≡ x') × (x' + 1 < k)
        → (2 * i + 1) * 16 + (x + 1) % k < (2 * i + 1) * 16 + (x' + 1) % k
    one k x x' i h = let e : (x' + 1) % k ≡ x' + 1 = mod-eq_of_lt h.1 in rw (h.0, e) (omega arith)

-- along one side the rank rises
pub plus-rises : (torus : Bool) (k x y c i : ℕ) → x < k → y < k → k ≤ 16 → 1 < k → c ≤ 1 → next_in k x ≢ y
    → (c ≡ 0 → next_in k x ≡ x + 1)
    → (c ≡ 1 → next_in k x ≤ y)
    → (2 * i + c) * 16 + position k x c < (2 * i + (if torus && (nat_lt 1 k && are_edges k (next_in k x) (next_in k (next_in k x))) then 1 else c)) * 16
    + position k (next_in k x) (if torus && (nat_lt 1 k && are_edges k (next_in k x) (next_in k (next_in k x))) then 1 else c)
plus-rises torus k x y c i hx hy small some low differ straight behind =
    let below : next_in k x < k = grind (arith, nat_tests) in
    rises (torus && (nat_lt 1 k && are_edges k (next_in k x) (next_in k (next_in k x)))) k x (next_in k x) c i hx below small low straight
    (λ e. (next-mod k x hx, let h = behind e in omega arith))

mirrored : (k x : ℕ) → x < k → next_in k (k - 1 - x) ≡ k - 1 - last_in k x
mirrored k x hx = grind (arith, nat_tests)

pub minus-rises : (torus : Bool) (k x y c i : ℕ) → x < k → y < k → k ≤ 16 → 1 < k → c ≤ 1 → last_in k x ≢ y
    → (c ≡ 0 → x ≡ last_in k x + 1)
    → (c ≡ 1 → y ≤ last_in k x)
    → (2 * i + c) * 16 + position k (k - 1 - x) c < (2 * i + (if torus && (nat_lt 1 k && are_edges k (last_in k x) (last_in k (last_in k x))) then 1 else c)) * 16
    + position k (k - 1 - last_in k x) (if torus && (nat_lt 1 k && are_edges k (last_in k x) (last_in k (last_in k x))) then 1 else c)
minus-rises torus k x y c i hx hy small some low differ straight behind =
    let below : last_in k x < k = grind (arith, nat_tests) in
    rises (torus && (nat_lt 1 k && are_edges k (last_in k x) (last_in k (last_in k x)))) k (k - 1 - x) (k - 1 - last_in k x) c i (omega arith) (omega arith) small low
    (λ e. let h = straight e in omega arith)
    (λ e. (next-mod k (k - 1 - x) (omega arith) ∙ mirrored k x hx, let h = behind e in omega arith))

-- at a turn to a later side too
pub turn-rises : (i j c c' k x k' x' : ℕ) → i < j → c ≤ 1 → x < k → k ≤ 16 → x' < k'
    → (2 * i + c) * 16 + position k x c < (2 * j + c') * 16 + position k' x' c'
turn-rises i j c c' k x k' x' less low hx small hx' = let p = position-below k x c hx in omega arith
