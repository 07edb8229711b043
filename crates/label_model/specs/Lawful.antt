-- Lawful labellings of a design, one for each phase of the schedule; the least one; clean outputs; isolation.
use Rattle.std.specs.Prelude.{◌≡◌, ℕ, ◌+◌, ◌%◌, ◌<◌, true, false}
use Rattle.std.specs.Int.{bit_at}
use Rattle.std.specs.List.{AllByRecursion}
use Rattle.vl_tree.specs.declared.tree.Join.{Join}
use Rattle.vl_tree.specs.Values.{Name, Item, assign, clocked, store, Design}
use Rattle.vl_model.specs.Meaning.{Widths, width_of}
use Rattle.vl_model.specs.Lines.{leaf_lines, top_lines, is_input, is_output, is_register, is_memory}
use Rattle.vl_model.specs.Rules.{is_kind}
use Rattle.vl_model.specs.Leaf.{leaf_widths}
use Rattle.vl_model.specs.Whole.{Nets, EachInstance, top_widths, IsRun}
use Rattle.label_model.specs.Labels.{none, only, either, IsWithin, Label, known, from, sources, known_as, IsBelow, all_sources, Labels, label_of}

-- the labels of a design in one phase: of the top's nets, and inside each instance, by its name
pub record LabelNets : Type 0 where
  pub top : Name → ℕ → Label
  pub inside : Name → Labels

-- ---- in a phase

-- each bit of an assign's target has its expression's label
abbrev pub IsAssigned : Widths → Labels → Item → Type 0
IsAssigned w l (assign n e) = (i : ℕ) → i < w.net n → l.net n i ≡ label_of w l e i
IsAssigned w l _ = Unit {0}

-- the bits of a port and of its net have equal labels
abbrev pub IsTied : Widths → Labels → (Name → ℕ → Label) → Join → Type 0
IsTied w l top j = (i : ℕ) → i < w.net j.port → l.net j.port i ≡ top j.net i

-- the top's inputs are from their own domains, and labels go along assigns and joins
pub record AreLabels (d : Design) (owner : Name → ℕ) (l : LabelNets) : Type 0 where
  pub inputs : (n : Name) → is_kind is_input (top_lines d.top) n ≡ true → (i : ℕ) → i < (top_widths d).net n
      → l.top n i ≡ from (only (owner n))
  pub assigned : EachInstance d (λ leaf n joins.
      AllByRecursion (IsAssigned (leaf_widths leaf) (l.inside n)) leaf.items)
  pub tied : EachInstance d (λ leaf n joins. AllByRecursion (IsTied (leaf_widths leaf) (l.inside n) l.top) joins)

-- ---- from phase to phase

-- what may be written, of label x, is below y; nothing is where the enable is known to be 0
abbrev pub MayWrite : Label → Label → Label → Type 0
MayWrite (known false) x y = Unit {0}
MayWrite enable x y = IsBelow x y

-- a register's label is above its clocked expression's; a memory's is above its own, and above the domains of the
-- enable, the index and the value where a word may be written
abbrev pub IsCarried : Widths → Labels → Labels → Item → Type 0
IsCarried w l m (clocked n k e) = (i : ℕ) → i < w.net n → IsBelow (label_of w l e i) (m.net n i)
IsCarried w l m (store c n x e) =
    (i : ℕ) → i < w.word n → IsBelow (l.word n i) (m.word n i)
    × MayWrite (label_of w l c 0)
    (from (either (sources (label_of w l c 0))
    (either (all_sources (label_of w l x) (width_of w x)) (sources (label_of w l e i))))) (m.word n i)
IsCarried w l m _ = Unit {0}

-- at reset a register is known, and a memory depends on no domain
abbrev pub IsBegun : Widths → Labels → Item → Type 0
IsBegun w m (clocked n k e) = (i : ℕ) → i < w.net n → IsBelow (known_as (bit_at k.value i)) (m.net n i)
IsBegun w m (store c n x e) = (i : ℕ) → i < w.word n → IsBelow (from none) (m.word n i)
IsBegun w m _ = Unit {0}

-- a labelling for phases 0 to L-1 of the schedule, where port n of the top is of domain owner n: phase 0 is above
-- reset, and each phase is above what the one before hands over
pub record IsLawful (d : Design) (owner : Name → ℕ) (L : ℕ) (labels : ℕ → LabelNets) : Type 0 where
  pub right : (f : ℕ) → f < L → AreLabels d owner (labels f)
  pub starts : EachInstance d (λ leaf n joins.
      AllByRecursion (IsBegun (leaf_widths leaf) ((labels 0).inside n)) leaf.items)
  pub edges : (f : ℕ) → f < L → EachInstance d (λ leaf n joins.
      AllByRecursion (IsCarried (leaf_widths leaf) ((labels f).inside n) ((labels ((f + 1) % L)).inside n)) leaf.items)

-- ---- the least

-- at each bit of a register and of a memory, by the instance's name
abbrev pub IsKeptBelow : Design → (Name → Labels) → (Name → Labels) → Type 0
IsKeptBelow d a b = EachInstance d (λ leaf n joins.
    ((m : Name) → is_kind is_register (leaf_lines leaf) m ≡ true → (i : ℕ) → i < (leaf_widths leaf).net m
    → IsBelow ((a n).net m i) ((b n).net m i))
    × ((m : Name) → is_kind is_memory (leaf_lines leaf) m ≡ true → (i : ℕ) → i < (leaf_widths leaf).word m
    → IsBelow ((a n).word m i) ((b n).word m i)))

-- in each phase
abbrev pub IsBelowAll : Design → ℕ → (ℕ → LabelNets) → (ℕ → LabelNets) → Type 0
IsBelowAll d L a b = (f : ℕ) → f < L → IsKeptBelow d (a f).inside (b f).inside

-- a lawful labelling that is below every other
pub record IsLeast (d : Design) (owner : Name → ℕ) (L : ℕ) (labels : ℕ → LabelNets) : Type 0 where
  pub lawful : IsLawful d owner L labels
  pub least : (other : ℕ → LabelNets) → IsLawful d owner L other → IsBelowAll d L labels other

-- ---- clean

-- every bit of every output port is known, or from the port's own domain or none, in every phase
abbrev pub AreClean : Design → (Name → ℕ) → ℕ → (ℕ → LabelNets) → Type 0
AreClean d owner L labels = (n : Name) → is_kind is_output (top_lines d.top) n ≡ true → (f : ℕ) → f < L → (i : ℕ)
    → i < (top_widths d).net n → IsWithin (sources ((labels f).top n i)) (owner n)

-- clean under the least lawful labelling
abbrev pub IsClean : Design → (Name → ℕ) → ℕ → Type 0
IsClean d owner L = (labels : ℕ → LabelNets) × IsLeast d owner L labels × AreClean d owner L labels

-- ---- isolation

-- two runs from one content of the memories whose inputs agree at the ports of domain e have equal outputs at them
abbrev pub Isolates : Design → (Name → ℕ) → ℕ → Type 0
Isolates d owner e = (first : Name → Name → ℕ → ℕ) (one other : ℕ → Name → ℕ) (values : ℕ → Nets) (others : ℕ → Nets)
    → IsRun d first one values → IsRun d first other others
    → ((t : ℕ) (n : Name) → is_kind is_input (top_lines d.top) n ≡ true → owner n ≡ e → one t n ≡ other t n)
    → (t : ℕ) (n : Name) → is_kind is_output (top_lines d.top) n ≡ true → owner n ≡ e
    → (values t).top n ≡ (others t).top n
