-- Answers that are made.
use Rattle.std.proofs.Common.{◌≡◌, ℕ, List, None, ◌∙◌, ap, sym, subst}
use Rattle.noc_model.specs.Plan.{Plan}
use Rattle.trace_read.specs.declared.entries.Entry.{Entry}
use Rattle.surf_cli.specs.declared.statuses.End.{End}
use Rattle.surf_cli.specs.Contents.{Contents}
use Rattle.std.specs.Prelude.{Some}
use Rattle.noc_desc.specs.declared.Draft.{Draft}
use Rattle.noc_desc.specs.Draft as table
use Rattle.noc_desc.specs.Draft.{table_of, draft_of}
use Rattle.noc_desc.specs.Document.{document}
use Rattle.desc_check.specs.Network.{plan_of_draft}
use Rattle.desc_check.specs.Accepted.{first_fault}
use Rattle.desc_check.specs.Upgrade.{upgrade_of}
use Rattle.surf_cli.specs.Jobs.{Simulate, Upgrade}
use Rattle.surf_cli.specs.Simulate.{reports_text}
use Rattle.surf_cli.specs.Meaning.{Outcome, Makes, Does, Exactly, UpgradeOf, Described, judged_plan, judged_draft, judged, with_plan, with_trace, over}
use Rattle.surf_cli.specs.Answers.{IsRefused}

-- the bytes are exactly those that are to be written
pub Makes-exactly : (m : Outcome) (right bytes : List ℕ) → m ≡ Does (Exactly right) → bytes ≡ right → Makes m bytes
Makes-exactly m right bytes e is = subst (λ o. Makes o bytes) (sym e) is

-- ---- a simulation

-- what a simulation goes on to over a plan
abbrev simulated : Contents → ℕ → Plan → Outcome
simulated held cycles p = with_trace p held.trace (λ es. Does (Exactly (reports_text p es cycles)))

simulated-is : (held : Contents) (cycles : ℕ) (description : List ℕ) (p : Plan) → description ≡ held.description → ((next : Plan → Outcome) → with_plan description next ≡ next p)
    → over (Simulate cycles) held ≡ with_trace p held.trace (λ es. Does (Exactly (reports_text p es cycles)))
simulated-is held cycles description p e plan =
    ap (λ bytes. with_plan bytes (simulated held cycles)) (sym e) ∙ plan (simulated held cycles)

-- whose trace is refused
pub trace-stops : (held : Contents) (cycles : ℕ) (description trace : List ℕ) (p : Plan) (end : End) → description ≡ held.description → trace ≡ held.trace
    → ((next : Plan → Outcome) → with_plan description next ≡ next p)
    → ((next : List Entry → Outcome) → IsRefused (with_trace p trace next) end) → IsRefused (over (Simulate cycles) held) end
trace-stops held cycles description trace p end e f plan refused =
    subst (λ o. IsRefused o end) (sym (simulated-is held cycles description p e plan))
    (subst (λ bytes. IsRefused (with_trace p bytes (λ es. Does (Exactly (reports_text p es cycles)))) end) f (refused (λ es. Does (Exactly (reports_text p es cycles)))))

-- whose reports are made
pub reports-made : (held : Contents) (cycles : ℕ) (description trace bytes : List ℕ) (p : Plan) (es : List Entry) → description ≡ held.description → trace ≡ held.trace
    → ((next : Plan → Outcome) → with_plan description next ≡ next p)
    → ((next : List Entry → Outcome) → with_trace p trace next ≡ next es) → bytes ≡ reports_text p es cycles → Makes (over (Simulate cycles) held) bytes
reports-made held cycles description trace bytes p es e f plan entries is =
    Makes-exactly _ (reports_text p es cycles) bytes
    (simulated-is held cycles description p e plan
    ∙ ap (λ t. with_trace p t (λ xs. Does (Exactly (reports_text p xs cycles)))) (sym f)
    ∙ entries (λ xs. Does (Exactly (reports_text p xs cycles)))) is

-- ---- an upgrade

-- bytes whose draft is accepted are judged as its plan
judged-again : (bytes : List ℕ) (d : Draft) (p : Plan) → table.first_fault bytes ≡ None → draft_of bytes ≡ Some d
    → first_fault d ≡ None → plan_of_draft d ≡ p → judged bytes ≡ Described p
unfolding judged
judged-again bytes d p none read accepted same =
    ap (λ f. judged_draft f (draft_of bytes)) none ∙ ap (judged_draft None) read
    ∙ ap (λ f. judged_plan f (plan_of_draft d)) accepted ∙ ap Described same

-- what is written of a plan's draft of version 2
pub record IsWritten (p : Plan) (bytes : List ℕ) : Type 0 where
  pub draft : Draft
  pub is : draft ≡ upgrade_of p
  pub has_table : table_of bytes ≡ Some (document draft)
  pub no_fault : table.first_fault bytes ≡ None
  pub reads_back : draft_of bytes ≡ Some draft
  pub accepted : first_fault draft ≡ None
  pub same_plan : plan_of_draft draft ≡ p

-- whose document is made
pub upgrade-made : (held : Contents) (description bytes : List ℕ) (p : Plan) → description ≡ held.description
    → ((next : Plan → Outcome) → with_plan description next ≡ next p) → IsWritten p bytes → Makes (over Upgrade held) bytes
upgrade-made held description bytes p e plan written =
    let document-is = written.has_table ∙ ap (λ d. Some (document d)) written.is in
    let judged-is = judged-again bytes written.draft p written.no_fault written.reads_back written.accepted written.same_plan in
    let meant = ap (λ d. with_plan d (λ q. Does (UpgradeOf q))) (sym e) ∙ plan (λ q. Does (UpgradeOf q)) in
    subst (λ o. Makes o bytes) (sym meant) (document-is, judged-is)
