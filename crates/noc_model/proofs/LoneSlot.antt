-- A domain owns each link again before its slots have gone round.
use Rattle.std.proofs.Common.{◌≡◌, ◌≢◌, ℕ, zero, suc, ◌+◌, ◌-◌, ◌*◌, ◌<◌, ◌≤◌, ◌⊎◌, inl, inr, length, refl, sym, ap, ◌∙◌, arith}
use Rattle.std.specs.Prelude.{ℤ, pos, negsuc, ◌+ℤ◌, ◌-ℤ◌, slice_index}
use Rattle.std.proofs.Math.Nat.{mod-lt}
use Rattle.std.proofs.lemmas.Bool.Decides.{nat_tests}
use Rattle.std.proofs.lemmas.Int.{ints}
use Rattle.std.proofs.lemmas.Grind.{get_or_default_zero}
use Rattle.std.specs.List.{Contains}
use Rattle.noc_model.specs.declared.ways.Way.{Way}
use Rattle.noc_model.specs.declared.ways.Way.TheVariants.{Local, Plus, Minus}
use Rattle.noc_model.specs.Plan.{Plan, hop}
use Rattle.noc_model.specs.Sound.{IsSound}
use Rattle.noc_model.specs.Place.{modulo, next_in, wave, way_of, slot_of, owner}
use Rattle.noc_model.proofs.Modulo.{modulo-next}
use Rattle.noc_model.proofs.Ports.{way-linked}

modulo-below : (k : ℕ) (z : ℤ) → 0 < k → modulo z k < k
modulo-below k (pos a) some = mod-lt a some
modulo-below k (negsuc a) some = let low = mod-lt a some in omega (arith, low)

-- a slot further on, before the slots begin again
slots-up : (k : ℕ) (z : ℤ) (a : ℕ) → 0 < k → modulo z k + a < k → modulo (z +ℤ pos a) k ≡ modulo z k + a
slots-up k z zero some below = let e : z +ℤ pos 0 ≡ z = omega (arith, ints) in ap (λ y. modulo y k) e ∙ omega arith
slots-up k z (suc a) some below =
    let e : z +ℤ pos (suc a) ≡ (z +ℤ pos a) +ℤ pos 1 = omega (arith, ints) in
    ap (λ y. modulo y k) e ∙ modulo-next k (z +ℤ pos a) some
    ∙ ap (next_in k) (slots-up k z a some (omega (arith, below))) ∙ up (modulo z k) below
  where
    up : (r : ℕ) → r + suc a < k → next_in k (r + a) ≡ r + suc a
    up r low = grind (arith, nat_tests)

slots-round : (k : ℕ) (z : ℤ) → 0 < k → modulo (z +ℤ pos (k - modulo z k)) k ≡ 0
slots-round k z some =
    let low = modulo-below k z some in
    let e : z +ℤ pos (k - modulo z k) ≡ (z +ℤ pos (k - 1 - modulo z k)) +ℤ pos 1 = step (modulo z k) low in
    ap (λ y. modulo y k) e ∙ modulo-next k (z +ℤ pos (k - 1 - modulo z k)) some
    ∙ ap (next_in k) (slots-up k z (k - 1 - modulo z k) some (omega (arith, low))) ∙ last (modulo z k) low
  where
    step : (r : ℕ) → r < k → z +ℤ pos (k - r) ≡ (z +ℤ pos (k - 1 - r)) +ℤ pos 1
    step r low = let more : k - r ≡ k - 1 - r + 1 = omega arith in omega (arith, ints, more)

    last : (r : ℕ) → r < k → next_in k (r + (k - 1 - r)) ≡ 0
    last r low = grind (arith, nat_tests)

-- each slot comes within a turn
pub slot-soon : (k : ℕ) (z : ℤ) (j : ℕ) → j < k → (a : ℕ) × (a ≤ k - 1) × (modulo (z +ℤ pos a) k ≡ j)
slot-soon k z j below = go order (modulo-below k z (omega arith))
  where
    order : (modulo z k ≤ j) ⊎ (j < modulo z k)
    order = grind arith

    go : (modulo z k ≤ j) ⊎ (j < modulo z k) → modulo z k < k → (a : ℕ) × (a ≤ k - 1) × (modulo (z +ℤ pos a) k ≡ j)
    go (inl later) low = (
      j - modulo z k,
      omega (arith, later, below),
      slots-up k z (j - modulo z k) (omega arith) (omega (arith, later, below)) ∙ omega (arith, later),
    )
    go (inr earlier) low =
        let round = slots-round k z (omega arith) in
        let there : modulo (z +ℤ pos (k - modulo z k)) k + j < k = omega (arith, round, below) in
        let e : z +ℤ pos (k - modulo z k + j) ≡ (z +ℤ pos (k - modulo z k)) +ℤ pos j = omega (arith, ints) in (
          k - modulo z k + j,
          omega (arith, low, earlier),
          ap (λ y. modulo y k) e ∙ slots-up k (z +ℤ pos (k - modulo z k)) j (omega arith) there ∙ omega (arith, round),
        )

-- the domain owns the link in one of the next cycles, which are as many as the other slots
pub own-soon : (p : Plan) (d n o t : ℕ) → IsSound p → d < length p.domains → o ≢ 0
    → (a : ℕ) × (a ≤ length p.slots - 1) × (owner p n o (pos (t + a)) ≡ d)
unfolding owner
own-soon p d n o t sound there link = go (way_of o) (way-linked o link)
  where
    has : Contains p.slots d
    has = sound.each_has_slot d there

    slot : slice_index p.slots has.0 ≡ d
    slot = sym (get_or_default_zero p.slots has.0 d has.1) ∙ has.2

    go : (w : Way) → w ≢ Local
        → (a : ℕ) × (a ≤ length p.slots - 1) × (slice_index p.slots (slot_of p n (pos (t + a)) w) ≡ d)
    go Local away = absurd (away refl)
    go (Plus i) away =
        let soon = slot-soon (length p.slots) (pos t -ℤ pos (hop p * wave p n)) has.0 has.1 in
        let e : pos (t + soon.0) -ℤ pos (hop p * wave p n) ≡ (pos t -ℤ pos (hop p * wave p n)) +ℤ pos soon.0 =
        omega (arith, ints) in
        (soon.0, soon.1, ap (slice_index p.slots) (ap (λ z. modulo z (length p.slots)) e ∙ soon.2) ∙ slot)
    go (Minus i) away =
        let soon = slot-soon (length p.slots) (pos t +ℤ pos (hop p * wave p n)) has.0 has.1 in
        let e : pos (t + soon.0) +ℤ pos (hop p * wave p n) ≡ (pos t +ℤ pos (hop p * wave p n)) +ℤ pos soon.0 =
        omega (arith, ints) in
        (soon.0, soon.1, ap (slice_index p.slots) (ap (λ z. modulo z (length p.slots)) e ∙ soon.2) ∙ slot)
