-- The best inputs of the outputs, and the free channel that they take.
use Rattle.std.proofs.Common.{◌≡◌, ◌≢◌, ℕ, zero, suc, ◌+◌, ◌*◌, ◌<◌, ◌≤◌, Bool, true, false, List, length, set, get_or, refl, sym, ap, ◌∙◌, subst, arith, length-set, get_or-set_same, get_or-set_other, ⊎_elim, Option, Some, None}
use Rattle.std.specs.Prelude.{not, option_map, if◌then◌else◌}
use Rattle.std.proofs.Math.Nat.{mul-le-mul}
use Rattle.std.proofs.lemmas.Bool.{cases_lt}
use Rattle.std.proofs.lemmas.Bool.Decides.{eqb_tells}
use Rattle.std.proofs.lemmas.List.{get_or_default, get_or_past}
use Rattle.noc_model.specs.Plan.{at_local}
use Rattle.noc_model.specs.Pick.{least}
use Rattle.vc_partition.proofs.Picks.{least-found}
use Rattle.vc_partition.specs.Picks.{comes_first}
use Rattle.vc_alloc.specs.declared.Winner.{Winner}
use Rattle.vc_alloc.specs.Allocator.{Allocator, channels_at, link_channels_at, held_at, best_at, free_in, better_of, wanted, with_best, AreOf, IsAllocator}

-- the first free channel that is found
pub free-found : (x : Allocator) (d o class j : ℕ) → j < at_local o 1 (channels_at x d)
    → least j (λ k. not (held_at x d o (class * channels_at x d + k))) ≡ None
    → not (held_at x d o (class * channels_at x d + j)) ≡ true
    → free_in x d o class ≡ Some (class * channels_at x d + j)
free-found x d o class j below none free =
    ap (option_map (λ k. class * channels_at x d + k)) (least-found (λ k. not (held_at x d o (class * channels_at x d + k))) (at_local o 1 (channels_at x d)) j below none free)

-- a winner is an input of domain d, and wants a channel of it
abbrev pub IsOf : Allocator → ℕ → Winner → Type 0
IsOf x d b = (b.place < length x.best * link_channels_at x d) × (b.to < link_channels_at x d)

better-of : (x : Allocator) (d pointer : ℕ) (best : Option Winner) (w : Winner)
    → ((b : Winner) → best ≡ Some b → IsOf x d b) → IsOf x d w → IsOf x d (better_of pointer best w)
better-of x d pointer None w old new = new
better-of x d pointer (Some b) w old new = go (comes_first pointer w.place b.place)
  where
    go : (t : Bool) → IsOf x d (if t then w else b)
    go true = new
    go false = old b refl

pub wanted-of : (x : Allocator) (d pointer place to : ℕ) (best : Option Winner)
    → ((b : Winner) → best ≡ Some b → IsOf x d b)
    → place < length x.best * link_channels_at x d → to < link_channels_at x d → (b : Winner)
    → wanted pointer best place (Some to) ≡ Some b → IsOf x d b
wanted-of x d pointer place to best old there below b e =
    let w : Winner = record { place = place; to = to } in
    let is : better_of pointer best w ≡ b = cc e in
    let P : Winner → Type 0 = IsOf x d in
    subst P is (better-of x d pointer best w old (there, below))

-- what is read back where a value was put, if anything, is the value
set-some : (xs : List (Option Winner)) (o : ℕ) (n : Option Winner) (b : Winner) → get_or (set xs o n) o None ≡ Some b
    → n ≡ Some b
set-some xs o n b e = ⊎_elim
    (λ (less : o < length xs). sym (get_or-set_same xs o n None less) ∙ e)
    (λ (past : length xs ≤ o). absurd (let none = get_or_past (set xs o n) o None (let a = length-set xs o n in omega (arith, a, past)) in let bad = sym none ∙ e in cc bad))
    (cases_lt o (length xs))

-- another best input of the domain
pub with-of : (x : Allocator) (d o : ℕ) (n : Option Winner) → AreOf x d → ((b : Winner) → n ≡ Some b → IsOf x d b)
    → AreOf (with_best x o n) d
with-of x d o n old new k b e =
    let long : length (set x.best o n) ≡ length x.best = length-set x.best o n in
    let is : IsOf x d b = ⊎_elim
    (λ w. let same : k ≡ o = w.1 in at (ap (λ j. get_or (set x.best o n) j None) (sym same) ∙ e))
    (λ w. old k b (sym (get_or-set_other x.best o k n None w.1) ∙ e))
    (eqb_tells k o) in (
      let P : ℕ → Type 0 = λ m. b.place < m * link_channels_at x d in subst P (sym long) is.0,
      is.1,
    )
  where
    at : get_or (set x.best o n) o None ≡ Some b → IsOf x d b
    at e = new b (set-some x.best o n b e)

pub places-few : (x : Allocator) (d : ℕ) → IsAllocator x → d < length x.channels
    → length x.best * link_channels_at x d ≤ 56
places-few x d whole there = let most : length x.best * link_channels_at x d ≤ 7 * 8 = mul-le-mul whole.few_ports (whole.few d there) in omega (arith, most)
