-- Events stay in order when one is added.
use Rattle.std.proofs.Common.{◌≡◌, ℕ, ◌-◌, ◌<◌, ◌≤◌, ⊎_elim, inl, inr, ◌∙◌, List, [], ◌∷◌, ◌++◌, length, get_or, subst, arith}
use Rattle.std.proofs.lemmas.Bool.{cases_lt}
use Rattle.std.proofs.lemmas.List.Quantifiers.{all_pairs_push}
use Rattle.std.proofs.lemmas.Option.{slice_get-get_or}
use Rattle.noc_model.specs.declared.Event.{Event}
use Rattle.tile_drive.specs.Order.{By, kind_place, IsNotAfter, AreInOrder, MayFollow}

-- an order by numbers first is transitive where the rest is
By-trans : (a b c : ℕ) (P Q R : Type 0) → (P → Q → R) → By a b P → By b c Q → By a c R
By-trans a b c P Q R f (inl p) (inl q) = inl (omega arith)
By-trans a b c P Q R f (inl p) (inr q) = let e = q.0 in inl (omega arith)
By-trans a b c P Q R f (inr p) (inl q) = let e = p.0 in inl (omega arith)
By-trans a b c P Q R f (inr p) (inr q) = inr (p.0 ∙ q.0, f p.1 q.1)

-- the order of events is transitive
pub IsNotAfter-trans : (a b c : Event) → IsNotAfter a b → IsNotAfter b c → IsNotAfter a c
IsNotAfter-trans a b c =
    By-trans a.cycle b.cycle c.cycle _ _ _ (By-trans a.tile b.tile c.tile _ _ _ (By-trans a.domain b.domain c.domain _ _ _
    (λ (p : kind_place a.kind ≤ kind_place b.kind) (q : kind_place b.kind ≤ kind_place c.kind). omega arith)))

-- an event that follows the last one follows each
IsNotAfter-each : (es : List Event) (f d : Event) (k : ℕ) → AreInOrder es → MayFollow es f → k < length es
    → IsNotAfter (get_or es k d) f
IsNotAfter-each es f d k ordered follows within =
    let inside : length es - 1 < length es = omega arith in
    let last : IsNotAfter (get_or es (length es - 1) d) f = follows _ (slice_get-get_or es (length es - 1) d inside) in
    ⊎_elim (λ (below : k < length es - 1). IsNotAfter-trans _ _ _ (ordered k (length es - 1) d below inside) last)
    (λ (above : length es - 1 ≤ k). let e : length es - 1 ≡ k = omega arith in
    let P : ℕ → Type 0 = λ i. IsNotAfter (get_or es i d) f in subst P e last)
    (cases_lt k (length es - 1))

-- one event more
pub AreInOrder-push : (es : List Event) (f : Event) → AreInOrder es → MayFollow es f → AreInOrder (es ++ f ∷ [])
AreInOrder-push es f ordered follows =
    all_pairs_push IsNotAfter es f ordered (λ k d within. IsNotAfter-each es f d k ordered follows within)
