-- The slots of cycle 0, and how they turn.
use Rattle.std.proofs.Common.{◌≡◌, ◌≢◌, ℕ, zero, suc, ◌+◌, ◌-◌, ◌*◌, ◌/◌, ◌%◌, ◌<◌, length, refl, sym, ◌∙◌, ap, arith}
use Rattle.std.specs.Prelude.{ℤ, pos, negsuc, ◌+ℤ◌, ◌-ℤ◌, slice_index}
use Rattle.std.proofs.Math.Nat.{mod-eq_of_lt, mod-add-div, mod-lt}
use Rattle.std.proofs.lemmas.Int.{ints}
use Rattle.noc_model.specs.Plan.{Plan, hop}
use Rattle.noc_model.specs.declared.ways.Way.{Way}
use Rattle.noc_model.specs.declared.ways.Way.TheVariants.{Local, Plus, Minus}
use Rattle.noc_model.specs.Place.{modulo, next_in, slot_of, way_of, opposite, wave, owner}
use Rattle.noc_model.proofs.Modulo.{modulo-next}
use Rattle.noc_model.proofs.Ports.{way-linked, opposite-linked}
use Rattle.wave_sched.proofs.Slots.{same-mod, modulo-earlier}

pub modulo-below : (k : ℕ) (z : ℤ) → 0 < k → modulo z k < k
modulo-below k (pos a) some = mod-lt a some
modulo-below k (negsuc a) some = omega arith

-- n cycles later
pub modulo-more : (k n : ℕ) (z : ℤ) → 0 < k → modulo (z +ℤ pos n) k ≡ (modulo z k + n) % k
modulo-more k zero z some =
    let e : z +ℤ pos 0 ≡ z = omega (arith, ints) in
    let s : modulo z k + 0 ≡ modulo z k = omega arith in
    ap (λ y. modulo y k) e ∙ sym (mod-eq_of_lt (modulo-below k z some)) ∙ ap (λ x. x % k) (sym s)
modulo-more k (suc n) z some =
    let e : z +ℤ pos (suc n) ≡ (z +ℤ pos n) +ℤ pos 1 = omega (arith, ints) in
    let up : pos (modulo z k + n) +ℤ pos 1 ≡ pos (modulo z k + suc n) = omega (arith, ints) in
    ap (λ y. modulo y k) e ∙ modulo-next k (z +ℤ pos n) some ∙ ap (next_in k) (modulo-more k n z some)
    ∙ sym (modulo-next k (pos (modulo z k + n)) some) ∙ ap (λ y. modulo y k) up

-- whole turns count for nothing
pub turn-mod : (k c t : ℕ) → (c + t) % k ≡ (c + t % k) % k
turn-mod k c t =
    let a : t % k + k * (t / k) ≡ t = mod-add-div t k in
    same-mod k (c + t) (c + t % k) 0 (t / k) (omega arith)

-- the slot t cycles later
pub slot-turned : (p : Plan) (n t : ℕ) (z : ℤ) (w : Way) → w ≢ Local → 0 < length p.slots
    → slot_of p n (z +ℤ pos t) w ≡ (slot_of p n z w + t % length p.slots) % length p.slots
slot-turned p n t z Local link some = absurd (link refl)
slot-turned p n t z (Plus i) link some =
    let e : (z +ℤ pos t) -ℤ pos (hop p * wave p n) ≡ (z -ℤ pos (hop p * wave p n)) +ℤ pos t = omega (arith, ints) in
    ap (λ y. modulo y (length p.slots)) e ∙ modulo-more (length p.slots) t (z -ℤ pos (hop p * wave p n)) some
    ∙ turn-mod (length p.slots) (modulo (z -ℤ pos (hop p * wave p n)) (length p.slots)) t
slot-turned p n t z (Minus i) link some =
    let e : (z +ℤ pos t) +ℤ pos (hop p * wave p n) ≡ (z +ℤ pos (hop p * wave p n)) +ℤ pos t = omega (arith, ints) in
    ap (λ y. modulo y (length p.slots)) e ∙ modulo-more (length p.slots) t (z +ℤ pos (hop p * wave p n)) some
    ∙ turn-mod (length p.slots) (modulo (z +ℤ pos (hop p * wave p n)) (length p.slots)) t

pub slot-below : (p : Plan) (n : ℕ) (z : ℤ) (w : Way) → 0 < length p.slots → slot_of p n z w < length p.slots
slot-below p n z Local some = some
slot-below p n z (Plus i) some = modulo-below (length p.slots) (z -ℤ pos (hop p * wave p n)) some
slot-below p n z (Minus i) some = modulo-below (length p.slots) (z +ℤ pos (hop p * wave p n)) some

-- ---- the slots before cycle 0, by natural numbers

pub before-plus : (p : Plan) (n ago i period h w r : ℕ) → period ≡ length p.slots → 0 < length p.slots → h ≡ hop p
    → w ≡ wave p n
    → r ≡ (0 % period + (period - (ago + h * w) % period)) % period → r ≡ slot_of p n (pos 0 -ℤ pos ago) (Plus i)
before-plus p n ago i period h w r turns some hops waves is =
    let x : h * w ≡ hop p * wave p n = cc in
    let e : (pos 0 -ℤ pos ago) -ℤ pos (hop p * wave p n) ≡ pos 0 -ℤ pos (ago + hop p * wave p n) =
    omega (arith, ints) in
    is ∙ ap (λ k. (0 % k + (k - (ago + h * w) % k)) % k) turns
    ∙ ap (λ y. (0 % length p.slots + (length p.slots - (ago + y) % length p.slots)) % length p.slots) x
    ∙ sym (modulo-earlier (length p.slots) 0 (ago + hop p * wave p n) some)
    ∙ sym (ap (λ y. modulo y (length p.slots)) e)

two-mods : (k x y : ℕ) → (x % k + y % k) % k ≡ (x + y) % k
two-mods k x y =
    let a : x % k + k * (x / k) ≡ x = mod-add-div x k in
    let b : y % k + k * (y / k) ≡ y = mod-add-div y k in
    same-mod k (x % k + y % k) (x + y) (x / k + y / k) 0 (omega arith)

pub before-minus : (p : Plan) (n ago i period h w c r : ℕ) → period ≡ length p.slots → 0 < length p.slots → h ≡ hop p
    → w ≡ wave p n
    → c ≡ (0 % period + (period - ago % period)) % period → r ≡ (c % period + h * w % period) % period
    → r ≡ slot_of p n (pos 0 -ℤ pos ago) (Minus i)
before-minus p n ago i period h w c r turns some hops waves was is =
    let x : h * w ≡ hop p * wave p n = cc in
    let y : c ≡ modulo (pos 0 -ℤ pos ago) (length p.slots) =
    was ∙ ap (λ k. (0 % k + (k - ago % k)) % k) turns ∙ sym (modulo-earlier (length p.slots) 0 ago some) in
    is ∙ two-mods period c (h * w) ∙ ap (λ k. (c + h * w) % k) turns ∙ ap (λ v. (c + v) % length p.slots) x
    ∙ ap (λ v. (v + hop p * wave p n) % length p.slots) y
    ∙ sym (modulo-more (length p.slots) (hop p * wave p n) (pos 0 -ℤ pos ago) some)

-- ---- owners

pub owner-leaving : (p : Plan) (n port t : ℕ) → port ≢ 0 → 0 < length p.slots
    → slice_index p.slots ((slot_of p n (pos 0) (way_of port) + t % length p.slots) % length p.slots) ≡ owner p n port (pos t)
unfolding owner
owner-leaving p n port t link some =
    let e : pos 0 +ℤ pos t ≡ pos t = omega (arith, ints) in
    ap (slice_index p.slots) (sym (slot-turned p n t (pos 0) (way_of port) (way-linked port link) some) ∙ ap (λ z. slot_of p n z (way_of port)) e)

pub owner-arriving : (p : Plan) (m port t s : ℕ) → port ≢ 0 → 0 < length p.slots
    → slice_index p.slots ((slot_of p m (pos 0 -ℤ pos s) (way_of (opposite port)) + t % length p.slots) % length p.slots) ≡ owner p m (opposite port) (pos t -ℤ pos s)
unfolding owner
owner-arriving p m port t s link some =
    let e : (pos 0 -ℤ pos s) +ℤ pos t ≡ pos t -ℤ pos s = omega (arith, ints) in
    ap (slice_index p.slots) (sym (slot-turned p m t (pos 0 -ℤ pos s) (way_of (opposite port)) (opposite-linked port link) some) ∙ ap (λ z. slot_of p m z (way_of (opposite port))) e)
