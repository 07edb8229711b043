-- Where no leak is found, the outputs are clean.
use Rattle.std.proofs.Common.{◌≡◌, ℕ, zero, suc, ◌+◌, ◌<◌, ◌≤◌, Bool, true, false, ◌&&◌, List, [], ◌∷◌, ◌++◌, map, Option, refl, sym, ◌∙◌, ap, subst, bytes_eq, arith}
use Rattle.std.specs.Prelude.{Some, None, not, ◌==◌, if◌then◌else◌}
use Rattle.std.specs.List.{AllByRecursion}
use Rattle.std.proofs.lemmas.Bool.{or_parts, both_ways, false≢true, eqb-true, eqb-false}
use Rattle.std.proofs.lemmas.Option.{none-some}
use Rattle.vl_tree.specs.declared.tree.Port.{Port}
use Rattle.vl_tree.specs.declared.tree.TopItem.{TopItem}
use Rattle.vl_tree.specs.declared.tree.TopItem.TheVariants.{Wire, Instance}
use Rattle.vl_tree.specs.Values.{Name}
use Rattle.vl_model.specs.Lines.{Line, port, joint, Declared, lookup, kind_passes, way_of, is_output, net_bits}
use Rattle.vl_model.specs.declared.kind.Kind.TheVariants.{Inner, Child}
use Rattle.vl_model.specs.Rules.{is_kind}
use Rattle.label_model.specs.Labels.{Label, sources}
use Rattle.label_model.specs.Lawful.{LabelNets}
use Rattle.label_model.specs.Verdict.{Leak, first_of, depends, foreign_of, leak_here, port_leak, first_leak}
use Rattle.label_model.specs.Laws.{NoLeakIsClean}
use Rattle.vl_model.proofs.Settling.{one-name}

pub above : (i e : ℕ) → i ≤ e → (i ≡ e → ⊥) → i + 1 ≤ e
above i e low other = grind (arith, low, other)

pub first-none : (test : ℕ → Bool) (i k : ℕ) → first_of test i k ≡ None → (e : ℕ) → i ≤ e → e < i + k → test e ≡ false
first-none test i zero h e low high = absurd (omega (arith, low, high))
first-none test i (suc k) h e low high = go (test i) refl (first-none test (i + 1) k)
  where
    go : (b : Bool) → test i ≡ b → (first_of test (i + 1) k ≡ None → (e : ℕ) → i + 1 ≤ e → e < i + 1 + k → test e ≡ false) → test e ≡ false
    go true is rest = absurd (none-some i (sym (subst (λ b. (if b then Some i else first_of test (i + 1) k) ≡ None) is h)))
    go false is rest = here (i == e) refl
      where
        here : (b : Bool) → (i == e) ≡ b → test e ≡ false
        here true same = subst (λ z. test z ≡ false) (eqb-true i e same) is
        here false other = rest (subst (λ b. (if b then Some i else first_of test (i + 1) k) ≡ None) is h) e (above i e low (eqb-false i e other)) (omega (arith, high))

pub depends-none : (x : ℕ → Label) (e w i : ℕ) → depends x e w ≡ false → i < w → sources (x i) e ≡ false
depends-none x e zero i h lt = absurd (omega (arith, lt))
depends-none x e (suc w) i h lt = go (i == w) refl (depends-none x e w i)
  where
    parts : (sources (x w) e ≡ false) × (depends x e w ≡ false)
    parts = or_parts (sources (x w) e) (depends x e w) h

    go : (b : Bool) → (i == w) ≡ b → (depends x e w ≡ false → i < w → sources (x i) e ≡ false) → sources (x i) e ≡ false
    go true same rest = subst (λ z. sources (x z) e ≡ false) (sym (eqb-true i w same)) parts.0
    go false other rest = rest parts.1 (grind (arith, lt, eqb-false i w other))

no-foreign : (D own : ℕ) (x : ℕ → Label) (w i e : ℕ) → foreign_of D own x w ≡ None → i < w → e < D → sources (x i) e ≡ true → e ≡ own
no-foreign D own x w i e h lt below dep = go (e == own) refl
  where
    go : (b : Bool) → (e == own) ≡ b → e ≡ own
    go true same = eqb-true e own same
    go false other = absurd (both_ways (sources (x i) e) (depends-none x e w i (rest (depends x e w) (subst (λ b. (not b && depends x e w) ≡ false) other (first-none (λ e. not (e == own) && depends x e w) 0 D h e (omega arith) (omega (arith, below))))) lt) dep)
      where
        rest : (b : Bool) → (not false && b) ≡ false → b ≡ false
        rest b h = h

pick-phase : (P : ℕ → Type 0) (f k g : ℕ) → P f → ((g : ℕ) → f + 1 ≤ g → g < f + 1 + k → P g) → f ≤ g → g < f + suc k → P g
pick-phase P f k g one rest low high = go (f == g) refl
  where
    go : (b : Bool) → (f == g) ≡ b → P g
    go true same = subst P (eqb-true f g same) one
    go false other = rest g (above f g low (eqb-false f g other)) (omega (arith, high))

module _ (D L : ℕ) (owner : Name → ℕ) (labels : ℕ → LabelNets) where
  abbrev HasNone : Port → ℕ → Type 0
  HasNone q f = foreign_of D (owner q.name) ((labels f).top q.name) (q.high + 1) ≡ None

  no-leak-here : (p f : ℕ) (o : Option ℕ) (later : Option Leak) → leak_here p f o later ≡ None → (o ≡ None) × (later ≡ None)
  no-leak-here p f None later h = (refl, h)
  no-leak-here p f (Some e) later h = absurd (none-some (record { port = p; phase = f; foreign = e }) (sym h))

  no-port-leak : (q : Port) (p f k : ℕ) (later : Option Leak) → port_leak D owner labels q p f k later ≡ None → ((g : ℕ) → f ≤ g → g < f + k → HasNone q g) × (later ≡ None)
  no-port-leak q p f zero later h = ((λ g low high. absurd (omega (arith, low, high))), h)
  no-port-leak q p f (suc k) later h =
      let here = no-leak-here p f (foreign_of D (owner q.name) ((labels f).top q.name) (q.high + 1)) (port_leak D owner labels q p (f + 1) k later) h in
      let rest = no-port-leak q p (f + 1) k later here.1 in
      ((λ g low high. pick-phase (HasNone q) f k g here.0 rest.0 low high), rest.1)

  abbrev IsSilent : Port → Type 0
  IsSilent q = q.output ≡ true → (g : ℕ) → g < L → HasNone q g

  no-leaks : (qs : List Port) (p : ℕ) → first_leak D L owner labels qs p ≡ None → AllByRecursion IsSilent qs
  no-leaks [] p h = tt
  no-leaks (q ∷ qs) p h = go q.output refl h (no-leaks qs (p + 1))
    where
      go : (b : Bool) → q.output ≡ b → (if b then port_leak D owner labels q p 0 L (first_leak D L owner labels qs (p + 1)) else first_leak D L owner labels qs (p + 1)) ≡ None
          → (first_leak D L owner labels qs (p + 1) ≡ None → AllByRecursion IsSilent qs) → IsSilent q × AllByRecursion IsSilent qs
      go true is h rest = let here = no-port-leak q p 0 L (first_leak D L owner labels qs (p + 1)) h in ((λ o g lt. here.0 g (omega arith) (omega (arith, lt))), rest here.1)
      go false is h rest = ((λ o. absurd (both_ways q.output is o)), rest h)

-- ---- an output of the top is a port

no-joint : (is : List TopItem) (n : Name) → is_kind is_output (map joint is) n ≡ false
no-joint [] n = refl
no-joint (Wire h m ∷ is) n = go (bytes_eq n m) (no-joint is n)
  where
    go : (b : Bool) → is_kind is_output (map joint is) n ≡ false → kind_passes is_output (if b then Some (record { name = m; kind = Inner; high = h; last = 0 }) else lookup (map joint is) n) ≡ false
    go true rest = refl
    go false rest = rest
no-joint (Instance l m joins ∷ is) n = go (bytes_eq n m) (no-joint is n)
  where
    go : (b : Bool) → is_kind is_output (map joint is) n ≡ false → kind_passes is_output (if b then Some (record { name = m; kind = Child; high = 0; last = 0 }) else lookup (map joint is) n) ≡ false
    go true rest = refl
    go false rest = rest

abbrev IsPortOf : (Port → Type 0) → List Line → Name → Type 0
IsPortOf P lines n = (q : Port) × (n ≡ q.name) × (q.output ≡ true) × P q × (net_bits (lookup lines n) ≡ q.high + 1)

abbrev as_declared : Port → Option Declared
as_declared q = Some (record { name = q.name; kind = way_of q.output; high = q.high; last = 0 })

find-port : (P : Port → Type 0) (ps : List Port) (rest : List Line) (n : Name) → AllByRecursion P ps → is_kind is_output rest n ≡ false → is_kind is_output (map port ps ++ rest) n ≡ true → IsPortOf P (map port ps ++ rest) n
find-port P [] rest n a none k = absurd (both_ways (is_kind is_output rest n) none k)
find-port P (q ∷ ps) rest n a none k = go (bytes_eq n q.name) refl k (find-port P ps rest n a.1 none)
  where
    out : (b : Bool) → is_output (way_of b) ≡ true → b ≡ true
    out true h = refl
    out false h = absurd (false≢true h)

    wide : (b : Bool) → net_bits (Some (record { name = q.name; kind = way_of b; high = q.high; last = 0 })) ≡ q.high + 1
    wide true = refl
    wide false = refl

    go : (b : Bool) → bytes_eq n q.name ≡ b → kind_passes is_output (if b then as_declared q else lookup (map port ps ++ rest) n) ≡ true → (is_kind is_output (map port ps ++ rest) n ≡ true → IsPortOf P (map port ps ++ rest) n)
        → IsPortOf P (map port (q ∷ ps) ++ rest) n
    go true same h later = (q, one-name n q.name same, out q.output h, a.0, ap (λ b. net_bits (if b then as_declared q else lookup (map port ps ++ rest) n)) same ∙ wide q.output)
    go false other h later = let p = later h in (p.0, p.1, p.2, p.3, ap (λ b. net_bits (if b then as_declared q else lookup (map port ps ++ rest) n)) other ∙ p.4)

pub no-leak-is-clean : NoLeakIsClean
no-leak-is-clean d owner D L v = (
  v.0,
  v.1,
  λ n k f lf i lt e dep.
      let p = find-port (IsSilent D L owner v.0) d.top.ports (map joint d.top.items) n (no-leaks D L owner v.0 d.top.ports 0 (sym v.3)) (no-joint d.top.items n) k in
      subst (λ z. e ≡ owner z) (sym p.1)
      (no-foreign D (owner p.0.name) ((v.0 f).top p.0.name) (p.0.high + 1) i e (p.3 p.2 f lf) (subst (λ z. i < z) p.4 lt) (v.2 n k f lf i lt e dep) (subst (λ z. sources ((v.0 f).top z i) e ≡ true) p.1 dep)),
)
