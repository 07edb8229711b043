-- Flags of tiles, where one was set.
use Rattle.std.proofs.Common.{◌≡◌, ◌≢◌, ◌<◌, ℕ, zero, suc, Bool, true, false, List, [], ◌∷◌, length, set, get_or-set_same, get_or-set_other, refl, sym, ap, ◌∙◌, arith, ⊎_elim}
use Rattle.std.proofs.lemmas.Bool.Decides.{eqb_tells}
use Rattle.cycle_sim.specs.Asleep.{is_awake}

pub unlike : true ≡ false → ⊥
unlike e = cc e

-- the tile that was woken is awake
pub set-awake : (awake : List Bool) (n k : ℕ) → n < length awake → n ≡ k → is_awake (set awake n true) k ≡ false → ⊥
set-awake awake n k inside same down = unlike (sym (get_or-set_same awake n true false inside) ∙ ap (is_awake (set awake n true)) same ∙ down)

-- a tile that sleeps slept before
pub set-asleep : (awake : List Bool) (n k : ℕ) → is_awake (set awake n true) k ≡ false → is_awake awake k ≡ false
set-asleep [] n k down = down
set-asleep (b ∷ awake) zero zero down = absurd (unlike down)
set-asleep (b ∷ awake) zero (suc k) down = down
set-asleep (b ∷ awake) (suc n) zero down = down
set-asleep (b ∷ awake) (suc n) (suc k) down = set-asleep awake n k down
