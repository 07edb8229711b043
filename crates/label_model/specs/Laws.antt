-- Laws over the definitions.
use Rattle.std.specs.Prelude.{◌≡◌, ℕ, suc, ◌+◌, ◌%◌, ◌<◌, true, Some, None}
use Rattle.std.specs.List.{AllByRecursion}
use Rattle.vl_tree.specs.Values.{Name, Design}
use Rattle.vl_model.specs.Lines.{leaf_lines, top_lines, is_net, is_register}
use Rattle.vl_model.specs.Rules.{IsSound, is_kind}
use Rattle.vl_model.specs.Leaf.{leaf_widths}
use Rattle.vl_model.specs.Whole.{EachInstance, top_widths}
use Rattle.label_model.specs.Labels.{IsBelow, Labels}
use Rattle.label_model.specs.Lawful.{LabelNets, AreLabels, IsCarried, IsLawful, IsLeast, IsKeptBelow, AreClean, IsClean, Isolates}
use Rattle.label_model.specs.Phase.{phase_labels, next_labels, first_labels}
use Rattle.label_model.specs.Rounds.{rounds}
use Rattle.label_model.specs.Verdict.{Leak, IsFirstLeak, IsVerdict}

-- A sound design whose outputs are clean under some lawful labelling isolates every domain
abbrev pub CleanIsolates : Type 0
CleanIsolates = (d : Design) → IsSound d → (owner : Name → ℕ) (L : ℕ) → 0 < L → (labels : ℕ → LabelNets)
    → IsLawful d owner L labels → AreClean d owner L labels → (e : ℕ) → Isolates d owner e

-- And so does one that is clean under the least
abbrev pub LeastIsolates : Type 0
LeastIsolates = (d : Design) → IsSound d → (owner : Name → ℕ) (L : ℕ) → 0 < L → IsClean d owner L
    → (e : ℕ) → Isolates d owner e

-- In a sound design there are labels of all nets for any labels of registers and memories
abbrev pub LabelsExist : Type 0
LabelsExist = (d : Design) → IsSound d → (owner : Name → ℕ) (inside : Name → Labels)
    → AreLabels d owner (phase_labels d owner inside)
    × EachInstance d (λ leaf k joins. ((n : Name) → is_kind is_register (leaf_lines leaf) n ≡ true
    → ((phase_labels d owner inside).inside k).net n ≡ (inside k).net n)
    × (((phase_labels d owner inside).inside k).word ≡ (inside k).word))

-- In a phase the labels of all nets rise with those of registers and memories
abbrev pub NetsRise : Type 0
NetsRise = (d : Design) → IsSound d → (owner : Name → ℕ) (l m : LabelNets) → AreLabels d owner l → AreLabels d owner m
    → IsKeptBelow d l.inside m.inside
    → ((n : Name) → is_kind is_net (top_lines d.top) n ≡ true → (i : ℕ) → i < (top_widths d).net n
    → IsBelow (l.top n i) (m.top n i))
    × EachInstance d (λ leaf k joins. (n : Name) (i : ℕ) → i < (leaf_widths leaf).net n
    → IsBelow ((l.inside k).net n i) ((m.inside k).net n i))

-- What is below a lawful labelling in one phase hands over what is below it in the next. So a walk that raises as
-- little as it must stays below every lawful labelling
abbrev pub CarriesBelow : Type 0
CarriesBelow = (d : Design) → IsSound d → (owner : Name → ℕ) (L : ℕ) (labels : ℕ → LabelNets)
    → IsLawful d owner L labels → (f : ℕ) → f < L → (l : LabelNets) → AreLabels d owner l
    → IsKeptBelow d l.inside (labels f).inside
    → EachInstance d (λ leaf k joins.
    AllByRecursion (IsCarried (leaf_widths leaf) (l.inside k) ((labels ((f + 1) % L)).inside k)) leaf.items)

-- Registers and memories by phase that are above reset, and above what each phase hands over, give a lawful labelling
abbrev pub KeptIsLawful : Type 0
KeptIsLawful = (d : Design) → IsSound d → (owner : Name → ℕ) (L : ℕ) (kept : ℕ → Name → Labels)
    → IsKeptBelow d (first_labels d) (kept 0)
    → ((f : ℕ) → f < L → IsKeptBelow d (next_labels d owner (kept f)) (kept ((f + 1) % L)))
    → IsLawful d owner L (λ f. phase_labels d owner (kept f))

-- Reset is below phase 0 of every lawful labelling
abbrev pub FirstIsBelow : Type 0
FirstIsBelow = (d : Design) → IsSound d → (owner : Name → ℕ) (L : ℕ) (labels : ℕ → LabelNets)
    → IsLawful d owner L labels → IsKeptBelow d (first_labels d) (labels 0).inside

-- What is below a phase of a lawful labelling hands over what is below the next phase
abbrev pub NextIsBelow : Type 0
NextIsBelow = (d : Design) → IsSound d → (owner : Name → ℕ) (L : ℕ) (labels : ℕ → LabelNets)
    → IsLawful d owner L labels → (f : ℕ) → f < L → (inside : Name → Labels) → IsKeptBelow d inside (labels f).inside
    → IsKeptBelow d (next_labels d owner inside) (labels ((f + 1) % L)).inside

-- Rounds that raise nothing more give the least lawful labelling
abbrev pub StableIsLeast : Type 0
StableIsLeast = (d : Design) → IsSound d → (owner : Name → ℕ) (L : ℕ) → 0 < L → (k : ℕ)
    → ((f : ℕ) → f < L → IsKeptBelow d (rounds d owner L (suc k) f) (rounds d owner L k f))
    → IsLeast d owner L (λ f. phase_labels d owner (rounds d owner L k f))

-- A verdict without a leak says that the design is clean
abbrev pub NoLeakIsClean : Type 0
NoLeakIsClean = (d : Design) (owner : Name → ℕ) (D L : ℕ) → IsVerdict d owner D L None → IsClean d owner L

-- A verdict with a leak names the least port, then the least phase, then the least domain
abbrev pub LeakIsFirst : Type 0
LeakIsFirst = (d : Design) (owner : Name → ℕ) (D L : ℕ) (leak : Leak) → IsVerdict d owner D L (Some leak)
    → (labels : ℕ → LabelNets) × IsLeast d owner L labels × IsFirstLeak D L owner labels d.top.ports leak
