-- The leak that is computed is the first one: by port, then by phase, then by domain.
use Rattle.std.proofs.Common.{◌≡◌, ℕ, zero, suc, ◌+◌, ◌<◌, ◌≤◌, Bool, true, false, ◌&&◌, List, [], ◌∷◌, Option, refl, sym, ◌∙◌, ap, subst, arith}
use Rattle.std.specs.Prelude.{Some, None, not, nat_le, ◌==◌, ◌||◌, if◌then◌else◌, slice_get, ◌⊎◌}
use mathlib.Core.Logic.{inl, inr}
use Rattle.std.proofs.lemmas.Bool.{and_parts, both_ways, false≢true, eqb-true, eqb-false, leb-true, leb-false, not-true}
use Rattle.std.proofs.lemmas.Option.{none-some}
use Rattle.vl_tree.specs.declared.tree.Port.{Port}
use Rattle.vl_tree.specs.Values.{Name}
use Rattle.label_model.specs.Labels.{Label, sources}
use Rattle.label_model.specs.Lawful.{LabelNets}
use Rattle.label_model.specs.Verdict.{Leak, IsForeign, IsLeakAt, IsNoLater, first_of, depends, foreign_of, leak_here, port_leak, first_leak}
use Rattle.label_model.specs.Laws.{LeakIsFirst}
use Rattle.label_model.proofs.Verdicts.{first-none, depends-none, above}

-- the number that is found passes, and none before it does
abbrev Found : (ℕ → Bool) → ℕ → ℕ → ℕ → Type 0
Found test i k e = (i ≤ e) × (e < i + k) × (test e ≡ true) × ((j : ℕ) → i ≤ j → j < e → test j ≡ false)

first-some : (test : ℕ → Bool) (i k e : ℕ) → first_of test i k ≡ Some e → Found test i k e
first-some test i zero e h = absurd (none-some e h)
first-some test i (suc k) e h = go (test i) refl (first-some test (i + 1) k e) h
  where
    go : (b : Bool) → test i ≡ b → (first_of test (i + 1) k ≡ Some e → Found test (i + 1) k e) → (if b then Some i else first_of test (i + 1) k) ≡ Some e → Found test i (suc k) e
    go true is rest f = let same : i ≡ e = cc f in (omega (arith, same), omega (arith, same), subst (λ z. test z ≡ true) same is, (λ j low high. absurd (omega (arith, low, high, same))))
    go false is rest f = let r = rest f in (omega (arith, r.0), omega (arith, r.1), r.2, (λ j low high. none j low high (i == j) refl r))
      where
        none : (j : ℕ) → i ≤ j → j < e → (b : Bool) → (i == j) ≡ b → Found test (i + 1) k e → test j ≡ false
        none j low high true same r = subst (λ z. test z ≡ false) (eqb-true i j same) is
        none j low high false other r = r.3 j (above i j low (eqb-false i j other)) high

depends-some : (x : ℕ → Label) (e w : ℕ) → depends x e w ≡ true → (i : ℕ) × (i < w) × (sources (x i) e ≡ true)
depends-some x e zero h = absurd (false≢true h)
depends-some x e (suc w) h = go (sources (x w) e) refl (depends-some x e w) h
  where
    go : (b : Bool) → sources (x w) e ≡ b → (depends x e w ≡ true → (i : ℕ) × (i < w) × (sources (x i) e ≡ true)) → (b || depends x e w) ≡ true → (i : ℕ) × (i < suc w) × (sources (x i) e ≡ true)
    go true is rest f = (w, omega arith, is)
    go false is rest f = let r = rest f in (r.0, omega (arith, r.1), r.2)

module _ (D L : ℕ) (owner : Name → ℕ) (labels : ℕ → LabelNets) where
  -- of the domains that the port may depend on in the phase, the least
  abbrev LeastAt : Port → ℕ → ℕ → Type 0
  LeastAt q f e = (e < D) × IsForeign owner (labels f) q e × ((j : ℕ) → j < D → IsForeign owner (labels f) q j → e ≤ j)

  abbrev test : Port → ℕ → ℕ → Bool
  test q f e = not (e == owner q.name) && depends ((labels f).top q.name) e (q.high + 1)

  passes : (q : Port) (f e : ℕ) → test q f e ≡ true → IsForeign owner (labels f) q e
  passes q f e h =
      let both = and_parts (not (e == owner q.name)) (depends ((labels f).top q.name) e (q.high + 1)) h in
      (eqb-false e (owner q.name) (not-true (e == owner q.name) both.0), depends-some ((labels f).top q.name) e (q.high + 1) both.1)

  fails : (q : Port) (f e : ℕ) → test q f e ≡ false → IsForeign owner (labels f) q e → ⊥
  fails q f e h x = go (e == owner q.name) refl (depends ((labels f).top q.name) e (q.high + 1)) refl h
    where
      go : (b : Bool) → (e == owner q.name) ≡ b → (c : Bool) → depends ((labels f).top q.name) e (q.high + 1) ≡ c → (not b && c) ≡ false → ⊥
      go true same c is k = x.0 (eqb-true e (owner q.name) same)
      go false other true is k = false≢true (sym k)
      go false other false is k = both_ways (sources ((labels f).top q.name x.1.0) e) (depends-none ((labels f).top q.name) e (q.high + 1) x.1.0 is x.1.1) x.1.2

  least-foreign : (q : Port) (f e : ℕ) → foreign_of D (owner q.name) ((labels f).top q.name) (q.high + 1) ≡ Some e → LeastAt q f e
  least-foreign q f e h =
      let r = first-some (test q f) 0 D e h in
      (omega (arith, r.1), passes q f e r.2, (λ j lt x. no-less j x r.3 (nat_le e j) refl))
    where
      no-less : (j : ℕ) → IsForeign owner (labels f) q j → ((i : ℕ) → 0 ≤ i → i < e → test q f i ≡ false) → (b : Bool) → nat_le e j ≡ b → e ≤ j
      no-less j x none true is = leb-true e j is
      no-less j x none false is = absurd (fails q f j (none j (omega arith) (leb-false e j is)) x)

  no-foreign-at : (q : Port) (f e : ℕ) → foreign_of D (owner q.name) ((labels f).top q.name) (q.high + 1) ≡ None → e < D → IsForeign owner (labels f) q e → ⊥
  no-foreign-at q f e h lt x = fails q f e (first-none (test q f) 0 D h e (omega arith) (omega (arith, lt))) x

  -- the port leaks to no domain in the phase
  abbrev Silent : Port → ℕ → Type 0
  Silent q g = (e : ℕ) → e < D → IsForeign owner (labels g) q e → ⊥

  -- the leak is the first of the port in the phases from f on
  abbrev AtPort : Port → ℕ → ℕ → ℕ → Leak → Type 0
  AtPort q p f k x = (x.port ≡ p) × (f ≤ x.phase) × (x.phase < f + k) × LeastAt q x.phase x.foreign × ((g : ℕ) → f ≤ g → g < x.phase → Silent q g)

  abbrev Later : Port → ℕ → ℕ → Option Leak → Leak → Type 0
  Later q f k later x = ((g : ℕ) → f ≤ g → g < f + k → Silent q g) × (later ≡ Some x)

  silent-from : (q : Port) (f end : ℕ) → Silent q f → ((g : ℕ) → f + 1 ≤ g → g < end → Silent q g) → (g : ℕ) → f ≤ g → g < end → Silent q g
  silent-from q f end here rest g low high = go (f == g) refl
    where
      go : (b : Bool) → (f == g) ≡ b → Silent q g
      go true same = subst (Silent q) (eqb-true f g same) here
      go false other = rest g (above f g low (eqb-false f g other)) high

  port-first : (q : Port) (p f k : ℕ) (later : Option Leak) (x : Leak) → port_leak D owner labels q p f k later ≡ Some x → AtPort q p f k x ⊎ Later q f k later x
  port-first q p f zero later x h = inr ((λ g low high. absurd (omega (arith, low, high))), h)
  port-first q p f (suc k) later x h = go (foreign_of D (owner q.name) ((labels f).top q.name) (q.high + 1)) refl h (port-first q p (f + 1) k later x)
    where
      more : Silent q f → AtPort q p (f + 1) k x ⊎ Later q (f + 1) k later x → AtPort q p f (suc k) x ⊎ Later q f (suc k) later x
      more none (inl a) = inl (a.0, omega (arith, a.1), omega (arith, a.2), a.3, silent-from q f x.phase none a.4)
      more none (inr b) = inr (silent-from q f (f + suc k) none (λ g low high. b.0 g low (omega (arith, high))), b.1)

      go : (o : Option ℕ) → foreign_of D (owner q.name) ((labels f).top q.name) (q.high + 1) ≡ o → leak_here p f o (port_leak D owner labels q p (f + 1) k later) ≡ Some x
          → (port_leak D owner labels q p (f + 1) k later ≡ Some x → AtPort q p (f + 1) k x ⊎ Later q (f + 1) k later x) → AtPort q p f (suc k) x ⊎ Later q f (suc k) later x
      go None is found rec = more (λ e. no-foreign-at q f e is) (rec found)
      go (Some e) is found rec =
          let same : record { port = p; phase = f; foreign = e } ≡ x = cc found in
          inl (subst (AtPort q p f (suc k)) same (refl, omega arith, omega arith, least-foreign q f e is, (λ g low high. absurd (omega (arith, low, high)))))

  -- of the ports from position p on, the leak is the first
  abbrev FirstOf : List Port → ℕ → Leak → Type 0
  FirstOf qs p x = (k : ℕ) × (x.port ≡ p + k) × (q : Port) × (slice_get qs k ≡ Some q) × (q.output ≡ true) × (x.phase < L) × LeastAt q x.phase x.foreign
      × ((j : ℕ) (r : Port) (g e : ℕ) → slice_get qs j ≡ Some r → r.output ≡ true → g < L → e < D → IsForeign owner (labels g) r e → IsNoLater x (record { port = p + j; phase = g; foreign = e }))

  no-phase-before : (q : Port) (f g : ℕ) → ((h : ℕ) → 0 ≤ h → h < f → Silent q h) → (Silent q g → ⊥) → f ≤ g
  no-phase-before q f g none some = go (nat_le f g) refl
    where
      go : (b : Bool) → nat_le f g ≡ b → f ≤ g
      go true is = leb-true f g is
      go false is = absurd (some (none g (omega arith) (leb-false f g is)))

  list-first : (qs : List Port) (p : ℕ) (x : Leak) → first_leak D L owner labels qs p ≡ Some x → FirstOf qs p x
  list-first [] p x h = absurd (none-some x h)
  list-first (q ∷ qs) p x h = go q.output refl h (list-first qs (p + 1) x)
    where
      behind : (q.output ≡ true → (g : ℕ) → g < L → Silent q g) → FirstOf qs (p + 1) x → FirstOf (q ∷ qs) p x
      behind silent r = (suc r.0, omega (arith, r.1), r.2, r.3, r.4, r.5, r.6, first)
        where
          first : (j : ℕ) (s : Port) (g e : ℕ) → slice_get (q ∷ qs) j ≡ Some s → s.output ≡ true → g < L → e < D → IsForeign owner (labels g) s e → IsNoLater x (record { port = p + j; phase = g; foreign = e })
          first zero s g e at out lg le far =
              let same : q ≡ s = cc at in
              absurd (silent (ap (λ (z : Port). z.output) same ∙ out) g lg e le (subst (λ z. IsForeign owner (labels g) z e) (sym same) far))
          first (suc j) s g e at out lg le far =
              let sum : p + 1 + j ≡ p + suc j = omega arith in
              subst (λ z. IsNoLater x (record { port = z; phase = g; foreign = e })) sum (r.7 j s g e at out lg le far)

      here : q.output ≡ true → AtPort q p 0 L x → FirstOf (q ∷ qs) p x
      here out a = (0, omega (arith, a.0), q, refl, out, omega (arith, a.2), a.3, first)
        where
          first : (j : ℕ) (s : Port) (g e : ℕ) → slice_get (q ∷ qs) j ≡ Some s → s.output ≡ true → g < L → e < D → IsForeign owner (labels g) s e → IsNoLater x (record { port = p + j; phase = g; foreign = e })
          first zero s g e at out' lg le far =
              let same : s ≡ q = cc at in
              let mine : IsForeign owner (labels g) q e = subst (λ z. IsForeign owner (labels g) z e) same far in
              (omega (arith, a.0), (λ w. (no-phase-before q x.phase g a.4 (λ silent. silent e le mine), (λ v. a.3.2 e le (subst (λ z. IsForeign owner (labels z) q e) (sym v) mine)))))
          first (suc j) s g e at out' lg le far = (omega (arith, a.0), (λ w. absurd (omega (arith, a.0, w))))

      go : (b : Bool) → q.output ≡ b → (if b then port_leak D owner labels q p 0 L (first_leak D L owner labels qs (p + 1)) else first_leak D L owner labels qs (p + 1)) ≡ Some x
          → (first_leak D L owner labels qs (p + 1) ≡ Some x → FirstOf qs (p + 1) x) → FirstOf (q ∷ qs) p x
      go true out found rec = ways (port-first q p 0 L (first_leak D L owner labels qs (p + 1)) x found)
        where
          ways : AtPort q p 0 L x ⊎ Later q 0 L (first_leak D L owner labels qs (p + 1)) x → FirstOf (q ∷ qs) p x
          ways (inl a) = here out a
          ways (inr b) = behind (λ o g lt. b.0 g (omega arith) (omega (arith, lt))) (rec b.1)
      go false out found rec = behind (λ o. absurd (both_ways q.output out o)) (rec found)

pub leak-is-first : LeakIsFirst
leak-is-first d owner D L x v = (v.0, v.1, record { leaks = leaks; phase = r.5; foreign = r.6.0; first = first })
  where
    r : FirstOf D L owner v.0 d.top.ports 0 x
    r = list-first D L owner v.0 d.top.ports 0 x (sym v.3)

    leaks : IsLeakAt owner v.0 d.top.ports x
    leaks = let same : r.0 ≡ x.port = omega (arith, r.1) in (r.2, subst (λ z. slice_get d.top.ports z ≡ Some r.2) same r.3, r.4, r.6.1)

    first : (y : Leak) → IsLeakAt owner v.0 d.top.ports y → y.phase < L → y.foreign < D → IsNoLater x y
    first y at lf le = let sum : 0 + y.port ≡ y.port = omega arith in subst (λ z. IsNoLater x (record { port = z; phase = y.phase; foreign = y.foreign })) sum (r.7 y.port at.0 y.phase y.foreign at.1 at.2 lf le at.3)
