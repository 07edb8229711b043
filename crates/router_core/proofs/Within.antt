-- The outputs that are asked for are marked, and no other output grants anything.
use Rattle.std.proofs.Common.{◌≡◌, ℕ, ◌+◌, ◌<◌, Bool, true, false, List, length, get_or, Option, refl, sym, ap, ◌∙◌, subst, arith, ⊎_elim}
use Rattle.std.specs.Prelude.{Some, None, IfSome, option_and_then}
use Rattle.std.proofs.lemmas.Bool.Decides.{eqb_tells}
use Rattle.noc_model.specs.declared.Grant.{Grant}
use Rattle.noc_model.specs.Step.{asks_for}
use Rattle.slot_switch.specs.Switch.{Switch, ask_at, switch_at, granted_to, granted_in}
use Rattle.router_core.specs.Asks.{AsksWithin}
use Rattle.router_core.proofs.Idle.{clash, pick-none}

-- one input port more
pub within-more : (port : ℕ) (x : Switch) (d : ℕ) (old new : List Bool) (asked : Option Grant) → length new ≡ length old → AsksWithin port x d old
    → asked ≡ ask_at x d port → ((o : ℕ) → get_or old o false ≡ true → get_or new o false ≡ true)
    → IfSome asked (λ (g : Grant). g.out < length old → get_or new g.out false ≡ true) → AsksWithin (port + 1) x d new
within-more port x d old new asked long within is kept has k g inside e below =
    let below_old : g.out < length old = omega (arith, below, long) in
    ⊎_elim
    (λ z. let P : Option Grant → Type 0 = λ o. IfSome o (λ (g : Grant). g.out < length old → get_or new g.out false ≡ true) in
    subst P (is ∙ ap (ask_at x d) (sym z.1) ∙ e) has below_old)
    (λ z. kept g.out (within k g (let apart = z.1 in omega (arith, inside, apart)) e below_old))
    (eqb_tells k port)

-- nothing is granted by an output that isn't marked
pub outside-none : (n : ℕ) (x : Switch) (d o : ℕ) (outputs : List Bool) → x.ports ≡ n → AsksWithin n x d outputs → o < length outputs → get_or outputs o false ≡ false
    → granted_in x d o ≡ None
outside-none n x d o outputs ports within below unmarked = ap (option_and_then (granted_to x d)) (pick-none x.ports (λ port. asks_for (ask_at x d port) o) (switch_at x d o) none)
  where
    none : (port : ℕ) → port < x.ports → asks_for (ask_at x d port) o ≡ false
    none port inside = go (ask_at x d port) refl
      where
        go : (a : Option Grant) → ask_at x d port ≡ a → asks_for a o ≡ false
        go None e = refl
        go (Some g) e = ⊎_elim
            (λ z. let marked = within port g (let i = inside in omega (arith, i, ports)) e (let a = z.1 in omega (arith, a, below)) in
            absurd (clash (sym marked ∙ ap (λ k. get_or outputs k false) z.1 ∙ unmarked)))
            (λ z. z.0)
            (eqb_tells g.out o)
