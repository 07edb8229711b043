-- The walk from reset through the phases: its labels are above what each phase hands over, but for one that has still
-- to be handed over, and below every lawful labelling.
use Rattle.std.specs.Prelude.{◌≡◌, ◌≢◌, ℕ, ◌+◌, ◌%◌, ◌<◌, List, [], length, get_or, Option, Some, None}
use Rattle.vl_tree.specs.Values.{Name, Design}
use Rattle.vl_tree.specs.Read.{read_design}
use Rattle.label_model.specs.Labels.{Label, Labels}
use Rattle.label_model.specs.Lawful.{LabelNets, IsKeptBelow, IsLawful}
use Rattle.label_model.specs.Phase.{next_labels, first_labels}
use Rattle.label_model.specs.Rounds.{first_round}
use Rattle.label_audit.specs.declared.bit.Bit.{Bit}
use Rattle.label_audit.specs.declared.phase.Shape.{Shape}
use Rattle.label_audit.specs.Rows.{firsts}
use Rattle.label_audit.specs.Audited.{port_domain}
use Rattle.label_audit.specs.Whole.{phase_in, Stand, tops_in}

-- the design that is audited
abbrev pub design_in : Shape → Design
design_in s = read_design s.design.now

-- the number of phases, one a slot of the wave
abbrev pub phase_count : Shape → ℕ
phase_count s = length s.plan.now.slots

-- the rows of a phase, of which there are none behind the last
abbrev pub phase_at : List (List (List (List Bit))) → ℕ → List (List (List Bit))
phase_at phases f = get_or phases f []

-- phases have what the one before hands over, from reset on
pub record AreFirst (s : Shape) (count : ℕ) (phases : List (List (List (List Bit)))) : Type 0 where
  pub long : length phases ≡ count
  pub stand : (f : ℕ) → f < count
      → Stand s (first_round (design_in s) (port_domain s.plan.now) f) (phase_in (phase_at phases f))

-- labels by phase, and the phase that has still to be handed over
pub record IsWalk (s : Shape) (phases : List (List (List (List Bit)))) (waits : Option ℕ) : Type 0 where
  pub kept : ℕ → Name → Labels
  pub long : length phases ≡ phase_count s
  pub within : (f : ℕ) → waits ≡ Some f → f < phase_count s
  pub stand : (f : ℕ) → f < phase_count s → Stand s (kept f) (phase_in (phase_at phases f))
  pub starts : IsKeptBelow (design_in s) (first_labels (design_in s)) (kept 0)
  pub edges : (f : ℕ) → f < phase_count s → waits ≢ Some f
      → IsKeptBelow (design_in s) (next_labels (design_in s) (port_domain s.plan.now) (kept f)) (kept
      ((f + 1) % phase_count s))
  pub least : (labels : ℕ → LabelNets) → IsLawful (design_in s) (port_domain s.plan.now) (phase_count s) labels
      → (f : ℕ) → f < phase_count s → IsKeptBelow (design_in s) (kept f) (labels f).inside

-- a walk of which no phase has to be handed over
abbrev pub IsDone : Shape → List (List (List (List Bit))) → Type 0
IsDone s phases = IsWalk s phases None

-- the rows of the top's nets, by phase
abbrev pub all_tops : Shape → List (List (List (List Bit))) → List (List (List Label))
all_tops s phases = firsts (λ f. tops_in s (phase_in (phase_at phases f))) (length phases)
