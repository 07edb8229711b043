-- Answers that are made, and how they are written.
use Rattle.std.specs.Prelude.{◌≡◌, ◌≤◌, ◌⊎◌, ℕ, List, Option, Result, Ok, Err}
use Rattle.surf_base.specs.Outside.{Rose, appended, GotPrefix}
use Rattle.noc_desc.specs.Draft.{IsMemory}
use Rattle.noc_desc.specs.declared.DescFault.{DescFault}
use Rattle.vl_tree.specs.Faults as text_fault
use Rattle.vl_tree.specs.declared.fault.TextFault.{TextFault}
use Rattle.surf_cli.specs.declared.statuses.End.{End}
use Rattle.surf_cli.specs.declared.statuses.End.TheVariants.{Refused, Memory}
use Rattle.surf_cli.specs.declared.refusals.Refusal.{Refusal}
use Rattle.surf_cli.specs.declared.refusals.Refusal.TheVariants.{Description, Text as TextRefusal}
use Rattle.surf_cli.specs.declared.answers.Text.{Text}
use Rattle.surf_cli.specs.declared.answers.Text.TheVariants as text
use Rattle.surf_cli.specs.Lines.{IsOfContents}
use Rattle.surf_cli.specs.Schedule.{schedule_text}
use Rattle.surf_cli.specs.Accepted.{accepted_text}
use Rattle.surf_cli.specs.Routes.{routes_text}
use Rattle.noc_model.specs.Report.{report}
use Rattle.surf_cli.specs.Simulate.{reports_of, events_of}
use Rattle.surf_cli.specs.Stress.{summary_of}
use Rattle.surf_cli.specs.Meaning.{Outcome, Halts}
use Rattle.aig_model.specs.Text as form_text
use Rattle.aig_out.specs.Forms.{form_of}

-- the bytes of a text that is not written yet
abbrev pub text_of : Text → List ℕ
text_of (text.Table table) = schedule_text table.plan table.cycles
text_of (text.Accepted p) = accepted_text p
text_of (text.Routes p) = routes_text p
text_of (text.Reports reports) = reports_of reports.plan (events_of reports.events)
text_of (text.Report one) = report one.plan one.domain (events_of one.events one.domain)
text_of (text.Summary summary) = summary_of summary.plan (events_of summary.events)
text_of (text.Bytes bytes) = bytes.items
text_of (text.Form one) = form_text.text_of (form_of one.aig)

-- what the files hold is refused
pub record Refuses (m : Outcome) (end : End) : Type 0 where
  pub refusal : Refusal
  pub of_contents : IsOfContents refusal
  pub is : end ≡ Refused refusal
  pub meant : Halts m (Refused refusal)

-- no answer is made: memory ran out, or what the files hold is refused
abbrev pub IsRefused : Outcome → End → Type 0
IsRefused m end = (end ≡ Memory) ⊎ Refuses m end

-- how a run ends that meets a fault of a description
abbrev pub EndsFor : DescFault → End → Type 0
EndsFor fault end = (end ≡ Memory) ⊎ ((IsMemory fault → ⊥) × (end ≡ Refused (Description fault)))

-- how a run ends that meets a fault of a text
abbrev pub EndsForText : TextFault → End → Type 0
EndsForText fault end = (end ≡ Memory) ⊎ ((text_fault.IsMemory fault → ⊥) × (end ≡ Refused (TextRefusal fault)))

-- the bytes are on the sink; where it failed, a prefix of them
abbrev pub Delivers : {T E : Type 0} → Result T E → Option (List ℕ) → Option (List ℕ) → ℕ → ℕ → List ℕ → Type 0
Delivers (Ok x) old new faults faults' bytes = (new ≡ appended old bytes) × (faults ≤ faults')
Delivers (Err e) old new faults faults' bytes = GotPrefix old new bytes × (faults ≤ faults') × Rose faults faults'
