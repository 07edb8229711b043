-- Wheels that are ticked one after another.
use Rattle.std.proofs.Common.{◌≡◌, ◌≢◌, ℕ, ◌+◌, ◌<◌, ◌≤◌, ◌⊎◌, inl, inr, List, length, sym, ◌∙◌, ap, subst, arith}
use Rattle.std.specs.Prelude.{slice_index_or, slice_set}
use Rattle.std.proofs.lemmas.List.{get_or_default, get_or-set_other}
use Rattle.std.proofs.lemmas.Grind.{get_or-set_at}
use Rattle.noc_model.specs.Plan.{Plan}
use Rattle.wave_sched.specs.declared.wheels.Wheel.{Wheel}
use Rattle.wave_sched.specs.Wheels.{Stands}
use Rattle.surf_cli.specs.Turning.{AllStand}

-- what one wheel's tick says
abbrev pub Ticks : Wheel → Wheel → Type 0
Ticks old new = (p : Plan) (m t : ℕ) → Stands old p m t → Stands new p m (t + 1)

pub gone-more : (ws xs : List Wheel) (i : ℕ) (d new : Wheel) → i < length xs → ((n : ℕ) (w : Wheel) → n < i → Ticks (slice_index_or ws n w) (slice_index_or xs n w))
    → ((n : ℕ) (w : Wheel) → i ≤ n → slice_index_or xs n w ≡ slice_index_or ws n w) → Ticks (slice_index_or xs i d) new
    → (n : ℕ) (w : Wheel) → n < i + 1 → Ticks (slice_index_or ws n w) (slice_index_or (slice_set xs i new) n w)
gone-more ws xs i d new there gone still ticks n w below p m t stands = go order
  where
    order : (n ≡ i) ⊎ (n < i)
    order = grind arith

    go : (n ≡ i) ⊎ (n < i) → Stands (slice_index_or (slice_set xs i new) n w) p m (t + 1)
    go (inl same) =
        let here : n < length xs = omega arith in
        let was : slice_index_or ws n w ≡ slice_index_or xs i d = sym (still n w (omega arith)) ∙ get_or_default xs n w d here ∙ ap (λ k. slice_index_or xs k d) same in
        subst (λ (x : Wheel). Stands x p m (t + 1)) (sym (get_or-set_at xs i n new w same there)) (ticks p m t (subst (λ (x : Wheel). Stands x p m t) was stands))
    go (inr less) =
        let other : n ≢ i = omega arith in
        subst (λ (x : Wheel). Stands x p m (t + 1)) (sym (get_or-set_other xs i n new w other)) (gone n w less p m t stands)

pub still-more : (ws xs : List Wheel) (i : ℕ) (new : Wheel) → ((n : ℕ) (w : Wheel) → i ≤ n → slice_index_or xs n w ≡ slice_index_or ws n w)
    → (n : ℕ) (w : Wheel) → i + 1 ≤ n → slice_index_or (slice_set xs i new) n w ≡ slice_index_or ws n w
still-more ws xs i new still n w more =
    let other : n ≢ i = omega arith in
    get_or-set_other xs i n new w other ∙ still n w (omega arith)

pub all-ticked : (ws xs : List Wheel) (i : ℕ) → length xs ≡ length ws → length xs ≤ i → ((n : ℕ) (w : Wheel) → n < i → Ticks (slice_index_or ws n w) (slice_index_or xs n w))
    → (p : Plan) (t : ℕ) → AllStand ws p t → AllStand xs p (t + 1)
all-ticked ws xs i same whole gone p t stands = record {
  count = same ∙ stands.count;
  each = λ n w less. gone n w (omega arith) p n t (stands.each n w (omega arith));
}
