-- What an audit answers: the first leak at an output port under the least lawful labelling, or none.
use Rattle.std.specs.Prelude.{◌≡◌, ℕ, zero, suc, ◌+◌, ◌<◌, ◌≤◌, ◌==◌, Bool, true, false, not, ◌&&◌, ◌||◌, List, [], ◌∷◌, Option, Some, None, if◌then◌else◌, slice_get}
use Rattle.vl_tree.specs.declared.tree.Port.{Port}
use Rattle.vl_tree.specs.Values.{Name, Design}
use Rattle.vl_model.specs.Lines.{top_lines, is_output}
use Rattle.vl_model.specs.Rules.{is_kind}
use Rattle.vl_model.specs.Whole.{top_widths}
use Rattle.label_model.specs.Labels.{Label, sources}
use Rattle.label_model.specs.Lawful.{LabelNets, IsLeast}

-- a port of the top by its position, a phase, and a domain other than the port's own
pub record Leak : Type 0 where
  pub port : ℕ
  pub phase : ℕ
  pub foreign : ℕ

-- ---- in words

-- some bit of the port may depend on domain e, which is not the port's own
abbrev pub IsForeign : (Name → ℕ) → LabelNets → Port → ℕ → Type 0
IsForeign owner l q e = (e ≡ owner q.name → ⊥) × ((i : ℕ) × (i < q.high + 1) × (sources (l.top q.name i) e ≡ true))

-- the place is an output port of the list that may depend on the domain in the phase
abbrev pub IsLeakAt : (Name → ℕ) → (ℕ → LabelNets) → List Port → Leak → Type 0
IsLeakAt owner labels ports x = (q : Port) × (slice_get ports x.port ≡ Some q) × (q.output ≡ true)
    × IsForeign owner (labels x.phase) q x.foreign

-- the first place is not later: by port, then by phase, then by domain
abbrev pub IsNoLater : Leak → Leak → Type 0
IsNoLater x y = (x.port ≤ y.port) × (x.port ≡ y.port → (x.phase ≤ y.phase)
    × (x.phase ≡ y.phase → x.foreign ≤ y.foreign))

-- it leaks at the place, in one of L phases, and at no earlier one to one of D domains
pub record IsFirstLeak (D L : ℕ) (owner : Name → ℕ) (labels : ℕ → LabelNets) (ports : List Port)
    (x : Leak) : Type 0 where
  pub leaks : IsLeakAt owner labels ports x
  pub phase : x.phase < L
  pub foreign : x.foreign < D
  pub first : (y : Leak) → IsLeakAt owner labels ports y → y.phase < L → y.foreign < D → IsNoLater x y

-- ---- computed

-- the first number below k from i on that passes
abbrev pub first_of : (ℕ → Bool) → ℕ → ℕ → Option ℕ
first_of test i zero = None
first_of test i (suc k) = if test i then Some i else first_of test (i + 1) k

-- whether one of the w bits may depend on domain e
abbrev pub depends : (ℕ → Label) → ℕ → ℕ → Bool
depends x e zero = false
depends x e (suc w) = sources (x w) e || depends x e w

-- the least of D domains that the bits may depend on and that is not their own
abbrev pub foreign_of : ℕ → ℕ → (ℕ → Label) → ℕ → Option ℕ
foreign_of D own x w = first_of (λ e. not (e == own) && depends x e w) 0 D

-- a leak at port p in phase f, if there is a foreign domain, and else a later one
abbrev pub leak_here : ℕ → ℕ → Option ℕ → Option Leak → Option Leak
leak_here p f None later = later
leak_here p f (Some e) later = Some (record { port = p; phase = f; foreign = e })

-- the first of one port in the k phases from f on, and else a later one
abbrev pub port_leak : ℕ → (Name → ℕ) → (ℕ → LabelNets) → Port → ℕ → ℕ → ℕ → Option Leak → Option Leak
port_leak D owner labels q p f zero later = later
port_leak D owner labels q p f (suc k) later =
    leak_here p f (foreign_of D (owner q.name) ((labels f).top q.name) (q.high + 1))
    (port_leak D owner labels q p (f + 1) k later)

-- the first leak at these ports, of which the first is at position p. D is the number of domains, L that of phases
abbrev pub first_leak : ℕ → ℕ → (Name → ℕ) → (ℕ → LabelNets) → List Port → ℕ → Option Leak
first_leak D L owner labels [] p = None
first_leak D L owner labels (q ∷ qs) p =
    if q.output then port_leak D owner labels q p 0 L (first_leak D L owner labels qs (p + 1))
    else first_leak D L owner labels qs (p + 1)

-- ---- the answer

-- the domains of the outputs' bits are numbers below D
abbrev pub AreBelow : Design → ℕ → ℕ → (ℕ → LabelNets) → Type 0
AreBelow d D L labels = (n : Name) → is_kind is_output (top_lines d.top) n ≡ true → (f : ℕ) → f < L → (i : ℕ)
    → i < (top_widths d).net n → (e : ℕ) → sources ((labels f).top n i) e ≡ true → e < D

-- the first leak under the least lawful labelling, or none
abbrev pub IsVerdict : Design → (Name → ℕ) → ℕ → ℕ → Option Leak → Type 0
IsVerdict d owner D L verdict = (labels : ℕ → LabelNets) × IsLeast d owner L labels × AreBelow d D L labels
    × (verdict ≡ first_leak D L owner labels d.top.ports 0)
