-- What a command means: the text that it writes, or how it ends without one.
use Rattle.std.specs.Prelude.{◌≡◌, ℕ, List, ◌∷◌, length, nat_le, nat_lt, if◌then◌else◌, Option, Some, None, Result, Ok, Err}
use Rattle.std.specs.Str.Lines.{lines}
use Rattle.noc_model.specs.Plan.{Plan, domain_named, places}
use Rattle.noc_desc.specs.Draft as table
use Rattle.noc_desc.specs.Draft.{table_of, draft_of}
use Rattle.noc_desc.specs.Document.{document}
use Rattle.desc_check.specs.Upgrade.{upgrade_of}
use Rattle.noc_desc.specs.declared.Draft.{Draft}
use Rattle.noc_desc.specs.declared.DescFault.{DescFault}
use Rattle.noc_desc.specs.declared.DescFault.TheVariants.{NotToml}
use Rattle.desc_check.specs.Network.{plan_of_draft}
use Rattle.desc_check.specs.Accepted.{first_fault}
use Rattle.trace_read.specs.declared.entries.Entry.{Entry}
use Rattle.trace_read.specs.declared.fault.TraceFault.{TraceFault}
use Rattle.trace_read.specs.Entries.{entries}
use Rattle.trace_read.specs.Accepted as trace
use Rattle.vl_tree.specs.Values.{Design}
use Rattle.gen_kit.specs.Right.{IsRightText}
use Rattle.vl_tree.specs.declared.fault.TextFault.{TextFault}
use Rattle.label_audit.specs.declared.leaks.Verdict.TheVariants.{Clean, Leak as LeakAt}
use Rattle.label_audit.specs.Audited.{IsAudit}
use Rattle.surf_cli.specs.declared.files.FileKind.{FileKind}
use Rattle.surf_cli.specs.declared.statuses.End.{End}
use Rattle.surf_cli.specs.declared.statuses.End.TheVariants.{Usage, Refused, Read, TooLong}
use Rattle.surf_cli.specs.declared.refusals.Refusal.{Refusal}
use Rattle.surf_cli.specs.declared.refusals.Refusal.TheVariants.{Description, NoDomain, Text, Trace, Leak, Size}
use Rattle.surf_cli.specs.Files.{NamedFile, limit_of}
use Rattle.surf_cli.specs.Contents.{Contents, nothing, with_content}
use Rattle.surf_cli.specs.Jobs.{Job, Schedule, Check, Routes, Simulate, Report, Upgrade, Replay, Audit, Stress, Compile, Aiger, Command}
use Rattle.surf_cli.specs.Schedule.{schedule_text}
use Rattle.surf_cli.specs.Accepted.{accepted_text}
use Rattle.surf_cli.specs.Routes.{routes_text}
use Rattle.surf_cli.specs.Simulate.{reports_text, report_text}
use Rattle.surf_cli.specs.Stress.{stress_text}
use Rattle.surf_cli.specs.TextRead.{judged_text}
use Rattle.surf_cli.specs.Replay.{replayed_text}
use Rattle.surf_cli.specs.AuditLines.{isolated_text}
use Rattle.surf_cli.specs.Limits.{form_places}
use Rattle.surf_cli.specs.FormText.{IsFormText}

-- what is to be written: these bytes, a document of version 2 that says this plan, a right text of it, or the text of a form
-- of it
pub data Work : Type 0 where
  Exactly : (bytes : List ℕ) → Work
  UpgradeOf : (plan : Plan) → Work
  TextOf : (plan : Plan) → Work
  FormOf : (plan : Plan) → Work

-- what a command comes to: a text is written, or the run ends so, or as the audit of a design for a plan ends
pub data Outcome : Type 0 where
  Does : (work : Work) → Outcome
  Stops : (end : End) → Outcome
  Audits : (plan : Plan) (design : Design) → Outcome

-- a refusal
abbrev pub refuses : Refusal → Outcome
refuses refusal = Stops (Refused refusal)

-- what a description says: its first fault, or else its plan
pub data Judged : Type 0 where
  Faulty : (fault : DescFault) → Judged
  Described : (plan : Plan) → Judged

-- the plan, unless there is a fault
abbrev pub judged_plan : Option DescFault → Plan → Judged
judged_plan (Some fault) plan = Faulty fault
judged_plan None plan = Described plan

-- bytes that give no draft are no table
abbrev pub judged_draft : Option DescFault → Option Draft → Judged
judged_draft (Some fault) draft = Faulty fault
judged_draft None None = Faulty NotToml
judged_draft None (Some draft) = judged_plan (first_fault draft) (plan_of_draft draft)

-- the faults of the table come before the faults of the draft in it
unfoldable pub judged : List ℕ → Judged
judged bytes = judged_draft (table.first_fault bytes) (draft_of bytes)

-- these bytes are right for what is to be written: an upgrade is the document of the plan's draft of version 2, and as a
-- description it is accepted, with the same plan
abbrev pub IsRight : Work → List ℕ → Type 0
IsRight (Exactly right) bytes = bytes ≡ right
IsRight (UpgradeOf plan) bytes = (table_of bytes ≡ Some (document (upgrade_of plan))) × (judged bytes ≡ Described plan)
IsRight (TextOf plan) bytes = IsRightText plan bytes
IsRight (FormOf plan) bytes = IsFormText plan bytes

-- what a command goes on to with what a description says
abbrev pub with_judged : Judged → (Plan → Outcome) → Outcome
with_judged (Faulty fault) next = refuses (Description fault)
with_judged (Described plan) next = next plan

-- what a command goes on to with a description's plan
abbrev pub with_plan : List ℕ → (Plan → Outcome) → Outcome
with_plan bytes next = with_judged (judged bytes) next

-- what a command goes on to with a domain that was found
abbrev pub if_found : Option ℕ → (ℕ → Outcome) → Outcome
if_found None next = refuses NoDomain
if_found (Some d) next = next d

-- what a command goes on to with the domain of a name
abbrev pub with_domain : Plan → List ℕ → (ℕ → Outcome) → Outcome
with_domain p name next = if_found (domain_named p name) next

-- what comes next, unless there is a fault
abbrev pub unless_faulty : Option TraceFault → Outcome → Outcome
unless_faulty None next = next
unless_faulty (Some fault) next = refuses (Trace fault)

-- what a command goes on to with a trace's entries
abbrev pub with_trace : Plan → List ℕ → (List Entry → Outcome) → Outcome
with_trace p bytes next = unless_faulty (trace.first_fault p bytes) (next (entries p (lines bytes)))

-- what comes next with the design, unless there is a fault
abbrev pub if_sound : Result Design TextFault → (Design → Outcome) → Outcome
if_sound (Err fault) next = refuses (Text fault)
if_sound (Ok d) next = next d

-- what a command goes on to with the design of a text, which is sound and has the plan's ports
abbrev pub with_text : Plan → List ℕ → (Design → Outcome) → Outcome
with_text p bytes next = if_sound (judged_text p bytes) next

-- a form of the plan is to be written, unless the network has too many places
abbrev pub formed : Plan → Outcome
formed p = if nat_lt form_places (places p) then refuses Size else Does (FormOf p)

-- what a job comes to, over what the files hold
abbrev pub over : Job → Contents → Outcome
over (Schedule cycles) held = with_plan held.description (λ p. Does (Exactly (schedule_text p cycles)))
over Check held = with_plan held.description (λ p. Does (Exactly (accepted_text p)))
over Routes held = with_plan held.description (λ p. Does (Exactly (routes_text p)))
over (Simulate cycles) held =
    with_plan held.description (λ p. with_trace p held.trace (λ es. Does (Exactly (reports_text p es cycles))))
over (Report cycles name) held =
    with_plan held.description (λ p. with_domain p name (λ d. with_trace p held.trace (λ es. Does (Exactly (report_text p es cycles d)))))
over Upgrade held = with_plan held.description (λ p. Does (UpgradeOf p))
over (Replay cycles) held = with_plan held.description (λ p. with_text p held.text (λ d.
    with_trace p held.trace (λ es. Does (Exactly (replayed_text p d es cycles)))))
over Audit held = with_plan held.description (λ p. with_text p held.text (λ d. Audits p d))
over (Stress number cycles) held = Does (Exactly (stress_text number cycles))
over Compile held = with_plan held.description (λ p. Does (TextOf p))
over Aiger held = with_plan held.description formed

-- what a command may write where it ends well: bytes that are right for its work; an audit writes its line for a design
-- that is clean
abbrev pub Makes : Outcome → List ℕ → Type 0
Makes (Does work) bytes = IsRight work bytes
Makes (Stops end) bytes = ⊥
Makes (Audits p d) bytes = IsAudit p d Clean × (bytes ≡ isolated_text p)

-- how a command ends that writes nothing; an audit ends at the design's first leak
abbrev pub Halts : Outcome → End → Type 0
Halts (Does work) end = ⊥
Halts (Stops cause) end = end ≡ cause
Halts (Audits p d) end = (port : ℕ) × (phase : ℕ) × (foreign : ℕ)
    × IsAudit p d (LeakAt port phase foreign) × (end ≡ Refused (Leak port phase foreign))

-- what a command goes on to with a file, which is absent or holds some bytes
abbrev pub with_file : FileKind → Option (List ℕ) → (List ℕ → Outcome) → Outcome
with_file kind None next = Stops Read
with_file kind (Some bytes) next = if nat_le (length bytes) (limit_of kind) then next bytes else Stops TooLong

-- what a command goes on to with its files, which are read in order
abbrev pub with_files : List NamedFile → List (Option (List ℕ)) → Contents → (Contents → Outcome) → Outcome
with_files (file ∷ files) (content ∷ contents) held next =
    with_file file.kind content (λ bytes. with_files files contents (with_content file.kind bytes held) next)
with_files _ _ held next = next held

-- what the words mean, over what their files hold
abbrev pub meaning : Option Command → List (Option (List ℕ)) → Outcome
meaning None contents = Stops Usage
meaning (Some command) contents = with_files command.files contents nothing (over command.job)
