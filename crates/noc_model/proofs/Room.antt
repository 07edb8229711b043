-- A flit that arrives finds room, and a credit that comes back was missing.
use Rattle.std.proofs.Common.{◌≡◌, ℕ, zero, suc, ◌+◌, ◌<◌, ◌≤◌, ◌⊎◌, inl, inr, true, Option, List, length, refl, sym, ap, ◌∙◌, arith, ◌==◌}
use Rattle.std.specs.Prelude.{Some}
use Rattle.std.proofs.lemmas.Bool.Decides.{nat_tests}
use Rattle.noc_model.specs.declared.LinkFlit.{LinkFlit}
use Rattle.noc_model.specs.Plan.{Plan, tiles}
use Rattle.noc_model.specs.Sound.{IsSound}
use Rattle.noc_model.specs.Place.{neighbour, opposite}
use Rattle.noc_model.specs.Step.{is_on, one_if}
use Rattle.noc_model.specs.Run.{State, start}
use Rattle.noc_model.specs.Laws.{on_row, channel_sum}
use Rattle.noc_model.specs.Driver.{Driver, driven_state, driven_inputs}
use Rattle.noc_model.proofs.Kept.{channel_sum-law}
use Rattle.noc_model.proofs.Driven.{driven-state_from}

on_row-some : (k j : ℕ) (row : ℕ → Option LinkFlit) (w : ℕ) → j < k → is_on (row j) w ≡ true → 1 ≤ on_row k row w
on_row-some zero j row w below on = absurd (omega arith)
on_row-some (suc k) j row w below on = go order (λ less. on_row-some k j row w less on)
  where
    order : (j < k) ⊎ (j ≡ k)
    order = grind arith

    go : (j < k) ⊎ (j ≡ k) → (j < k → 1 ≤ on_row k row w) → 1 ≤ one_if (is_on (row k) w) + on_row k row w
    go (inl less) earlier = omega (arith, earlier less)
    go (inr same) earlier =
        let here : one_if (is_on (row k) w) ≡ 1 = ap (λ i. one_if (is_on (row i) w)) (sym same) ∙ ap one_if on in
        omega (arith, here)

-- where a flit is on the link, the list at its end is shorter than the buffer
pub arrival-room : (p : Plan) (s : State) (n o m i : ℕ) (x : LinkFlit) → channel_sum p s n o m x.channel ≡ p.buffer
    → i < p.stages → (s n).row o i ≡ Some x
    → length ((s m).queue (opposite o) x.channel) < p.buffer
arrival-room p s n o m i x sum below e =
    let on : is_on ((s n).row o i) x.channel ≡ true = ap (λ y. is_on y x.channel) e ∙ same x.channel in
    let some = on_row-some p.stages i ((s n).row o) x.channel below on in
    omega (arith, sum, some)
  where
    same : (a : ℕ) → (a == a) ≡ true
    same a = let e : a ≡ a = refl in grind (arith, nat_tests)

-- where a credit comes back, the count is below the buffer
pub credit-room : (p : Plan) (s : State) (n o m w : ℕ) → channel_sum p s n o m w ≡ p.buffer
    → (s m).pulse (opposite o) w ≡ true → (s n).credits o w < p.buffer
credit-room p s n o m w sum e = let one : one_if ((s m).pulse (opposite o) w) ≡ 1 = ap one_if e in omega (arith, sum, one)

-- the sum in each state of a run that a driver makes
pub driven-sum : (p : Plan) (d : ℕ) (v : Driver) (k : ℕ) (states : ℕ → List ℕ) (n o m w : ℕ) → IsSound p → n < tiles p
    → neighbour p n o ≡ Some m
    → channel_sum p (driven_state p d v k 0 (start p) states) n o m w ≡ p.buffer
driven-sum p d v k states n o m w sound inside e =
    ap (λ s. channel_sum p s n o m w) (driven-state_from p d v k 0 (start p) states)
    ∙ channel_sum-law p d n o m w (driven_inputs p d v k 0 (start p) states) sound inside e
