-- The slot before and after a shift, by natural numbers alone.
use Rattle.std.proofs.Common.{◌≡◌, ℕ, ◌+◌, ◌-◌, ◌*◌, ◌/◌, ◌%◌, ◌<◌, ◌≤◌, ◌⊎◌, length, inl, inr, sym, ◌∙◌, ap, arith}
use Rattle.std.specs.Prelude.{pos, negsuc, ◌+ℤ◌, ◌-ℤ◌}
use Rattle.std.proofs.Math.Nat.{mod-eq_of_lt, add-mul-mod_self_left, mod-add-div, mod-lt}
use Rattle.std.proofs.lemmas.Int.{ints}
use Rattle.noc_model.specs.Plan.{Plan, hop}
use Rattle.noc_model.specs.declared.ways.Way.TheVariants.{Plus, Minus}
use Rattle.noc_model.specs.Place.{modulo, slot_of, wave}

-- two numbers that differ by multiples of k have the same remainder
pub same-mod : (k x y i j : ℕ) → x + k * i ≡ y + k * j → x % k ≡ y % k
same-mod k x y i j e = sym (add-mul-mod_self_left x k i) ∙ ap (λ z. z % k) e ∙ add-mul-mod_self_left y k j

pub modulo-later : (k t w : ℕ) → 0 < k → modulo (pos t +ℤ pos w) k ≡ (t % k + w % k) % k
modulo-later k t w some =
    let a : t % k + k * (t / k) ≡ t = mod-add-div t k in
    let b : w % k + k * (w / k) ≡ w = mod-add-div w k in
    let up : pos t +ℤ pos w ≡ pos (t + w) = omega (arith, ints) in
    ap (λ z. modulo z k) up ∙ same-mod k (t + w) (t % k + w % k) 0 (t / k + w / k) (omega arith)

pub modulo-earlier : (k t w : ℕ) → 0 < k → modulo (pos t -ℤ pos w) k ≡ (t % k + (k - w % k)) % k
modulo-earlier k t w some = go order
  where
    order : (w ≤ t) ⊎ (t < w)
    order = grind arith

    a : t % k + k * (t / k) ≡ t
    a = mod-add-div t k

    b : w % k + k * (w / k) ≡ w
    b = mod-add-div w k

    small : w % k < k
    small = mod-lt w some

    go : (w ≤ t) ⊎ (t < w) → modulo (pos t -ℤ pos w) k ≡ (t % k + (k - w % k)) % k
    go (inl less) =
        let down : pos t -ℤ pos w ≡ pos (t - w) = omega (arith, ints) in
        ap (λ z. modulo z k) down ∙ (same-mod k (t - w) (t % k + (k - w % k)) (w / k + 1) (t / k) (omega arith))
    go (inr more) =
        let down : pos t -ℤ pos w ≡ negsuc (w - t - 1) = omega (arith, ints) in
        let c : (w - t - 1) % k + k * ((w - t - 1) / k) ≡ w - t - 1 = mod-add-div (w - t - 1) k in
        let less : (w - t - 1) % k < k = mod-lt (w - t - 1) some in
        let within : k - 1 - (w - t - 1) % k < k = omega arith in
        ap (λ z. modulo z k) down
        ∙ (sym (mod-eq_of_lt within) ∙ same-mod k (k - 1 - (w - t - 1) % k) (t % k + (k - w % k)) (w / k) (t / k + (w - t - 1) / k) (omega arith))

-- ---- the slots of a cycle

pub owned-plus : (p : Plan) (n t i period h w slot : ℕ) → period ≡ length p.slots → 0 < length p.slots → h ≡ hop p
    → w ≡ wave p n
    → slot ≡ (t % period + (period - h * w % period)) % period → slot ≡ slot_of p n (pos t) (Plus i)
owned-plus p n t i period h w slot turns some hops waves is =
    let shift : h * w ≡ hop p * wave p n = cc in
    is ∙ ap (λ k. (t % k + (k - h * w % k)) % k) turns
    ∙ ap (λ s. (t % length p.slots + (length p.slots - s % length p.slots)) % length p.slots) shift
    ∙ sym (modulo-earlier (length p.slots) t (hop p * wave p n) some)

pub owned-minus : (p : Plan) (n t i period h w slot : ℕ) → period ≡ length p.slots → 0 < length p.slots → h ≡ hop p
    → w ≡ wave p n
    → slot ≡ (t % period + h * w % period) % period → slot ≡ slot_of p n (pos t) (Minus i)
owned-minus p n t i period h w slot turns some hops waves is =
    let shift : h * w ≡ hop p * wave p n = cc in
    is ∙ ap (λ k. (t % k + h * w % k) % k) turns
    ∙ ap (λ s. (t % length p.slots + s % length p.slots) % length p.slots) shift
    ∙ sym (modulo-later (length p.slots) t (hop p * wave p n) some)
