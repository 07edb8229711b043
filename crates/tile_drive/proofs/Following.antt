-- Which events may follow others.
use Rattle.std.proofs.Common.{◌≡◌, ℕ, ◌-◌, ◌≤◌, inl, inr, List, [], ◌∷◌, ◌++◌, length, length-append, get_or, refl, sym, ap, ◌∙◌, subst, arith}
use Rattle.std.proofs.Math.Seq.{get_or-append_seam}
use Rattle.std.proofs.lemmas.Option.{get_or_from_slice_get}
use Rattle.noc_model.specs.declared.Event.{Event}
use Rattle.noc_model.specs.declared.Host.{Host}
use Rattle.noc_model.specs.declared.Kind.{Kind}
use Rattle.noc_model.specs.Sound.{IsBefore}
use Rattle.tile_drive.specs.Order.{kind_place, IsNotAfter, MayFollow}
use Rattle.tile_drive.proofs.InOrder.{IsNotAfter-trans}
use Rattle.tile_drive.specs.SeenEvents.{event_at, IsLater}

-- what comes no earlier than an event that may follow may follow
pub follows : (es : List Event) (e f : Event) → MayFollow es e → IsNotAfter e f → MayFollow es f
follows es e f may order = λ x at. IsNotAfter-trans x e f (may x at) order

-- what comes no earlier than the last may follow
pub follows-last : (es : List Event) (e f : Event) → IsNotAfter e f → MayFollow (es ++ e ∷ []) f
follows-last es e f order = λ x at.
    let count : length (es ++ e ∷ []) - 1 ≡ length es = omega (arith, length-append es (e ∷ [])) in
    let is : x ≡ e =
    sym (get_or_from_slice_get (es ++ e ∷ []) (length (es ++ e ∷ []) - 1) x e at)
    ∙ ap (λ i. get_or (es ++ e ∷ []) i e) count ∙ get_or-append_seam es e [] e in
    subst (λ (y : Event). IsNotAfter y f) (sym is) order

-- events of one attachment and cycle
pub by-kind : (t : ℕ) (h : Host) (a b : Kind) → kind_place a ≤ kind_place b
    → IsNotAfter (event_at t h a) (event_at t h b)
by-kind t h a b less = inr (refl, inr (refl, inr (refl, less)))

-- an event of an attachment comes before the later ones
pub by-place : (t : ℕ) (h : Host) (a : Kind) (f : Event) → IsLater t h f → IsNotAfter (event_at t h a) f
by-place t h a f (inl l) = inl l
by-place t h a f (inr r) = inr (r.0, elim r.1 [ inl l ↦ inl l | inr s ↦ inr (s.0, inl s.1) ])

-- events of a later attachment
pub later-host : (t : ℕ) (g h : Host) (a : Kind) → IsBefore g h → IsLater t g (event_at t h a)
later-host t g h a before = inr (refl, before)
