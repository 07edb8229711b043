-- A domain that is looked for, and its report.
use Rattle.std.proofs.Common.{◌≡◌, ℕ, List, inr, refl, ◌∙◌, ap, sym, subst}
use Rattle.std.specs.Prelude.{Option, None}
use Rattle.noc_model.specs.Plan.{Plan, domain_named}
use Rattle.trace_read.specs.declared.entries.Entry.{Entry}
use Rattle.surf_cli.specs.declared.statuses.End.{End}
use Rattle.surf_cli.specs.declared.statuses.End.TheVariants.{Refused}
use Rattle.surf_cli.specs.declared.refusals.Refusal.TheVariants.{NoDomain}
use Rattle.surf_cli.specs.Contents.{Contents}
use Rattle.surf_cli.specs.Jobs.{Report}
use Rattle.surf_cli.specs.Simulate.{report_text}
use Rattle.surf_cli.specs.Meaning.{Outcome, Makes, Does, Exactly, if_found, with_plan, with_domain, with_trace, over}
use Rattle.surf_cli.specs.Answers.{IsRefused}
use Rattle.surf_cli.proofs.Judged.{halts}
use Rattle.surf_cli.proofs.Makings.{Makes-exactly}

-- the domain that was found
pub domain-found : (p : Plan) (name : List ℕ) (r : Option ℕ) → r ≡ domain_named p name
    → (next : ℕ → Outcome) → with_domain p name next ≡ if_found r next
domain-found p name r found next = ap (λ x. if_found x next) (sym found)

-- none was found
pub domain-absent : (p : Plan) (name : List ℕ) (next : ℕ → Outcome) → with_domain p name next ≡ if_found None next
    → IsRefused (with_domain p name next) (Refused NoDomain)
domain-absent p name next e = inr record { refusal = NoDomain; of_contents = tt; is = refl; meant = halts _ (Refused NoDomain) e }

-- what a report goes on to over a plan and a domain
abbrev of_domain : Contents → ℕ → Plan → ℕ → Outcome
of_domain held cycles p d = with_trace p held.trace (λ es. Does (Exactly (report_text p es cycles d)))

abbrev reported : Contents → ℕ → List ℕ → Plan → Outcome
reported held cycles name p = with_domain p name (of_domain held cycles p)

planned-is : (held : Contents) (cycles : ℕ) (name description : List ℕ) (p : Plan) → description ≡ held.description
    → ((next : Plan → Outcome) → with_plan description next ≡ next p)
    → over (Report cycles name) held ≡ with_domain p name (of_domain held cycles p)
planned-is held cycles name description p e plan =
    ap (λ bytes. with_plan bytes (reported held cycles name)) (sym e) ∙ plan (reported held cycles name)

-- what is known of a report, once its domain was found
pub record IsFound (held : Contents) (cycles : ℕ) (name description : List ℕ) (p : Plan) (d : ℕ) : Type 0 where
  pub description_is : description ≡ held.description
  pub plan : (next : Plan → Outcome) → with_plan description next ≡ next p
  pub looked_for : List ℕ
  pub name_is : looked_for ≡ name
  pub domain : (next : ℕ → Outcome) → with_domain p looked_for next ≡ next d

found-is : (held : Contents) (cycles : ℕ) (name description : List ℕ) (p : Plan) (d : ℕ)
    → IsFound held cycles name description p d → over (Report cycles name) held ≡ of_domain held cycles p d
found-is held cycles name description p d f =
    planned-is held cycles name description p f.description_is f.plan
    ∙ ap (λ n. with_domain p n (of_domain held cycles p)) (sym f.name_is) ∙ f.domain (of_domain held cycles p)

traced-is : (held : Contents) (cycles : ℕ) (name description trace : List ℕ) (p : Plan) (d : ℕ)
    → IsFound held cycles name description p d → trace ≡ held.trace
    → over (Report cycles name) held ≡ with_trace p trace (λ es. Does (Exactly (report_text p es cycles d)))
traced-is held cycles name description trace p d f t =
    found-is held cycles name description p d f
    ∙ ap (λ bytes. with_trace p bytes (λ es. Does (Exactly (report_text p es cycles d)))) (sym t)

-- whose trace is refused
pub trace-stops : (held : Contents) (cycles : ℕ) (name description trace : List ℕ) (p : Plan) (d : ℕ) (end : End)
    → IsFound held cycles name description p d → trace ≡ held.trace
    → ((next : List Entry → Outcome) → IsRefused (with_trace p trace next) end) → IsRefused (over (Report cycles name) held) end
trace-stops held cycles name description trace p d end f t refused =
    subst (λ o. IsRefused o end) (sym (traced-is held cycles name description trace p d f t))
    (refused (λ es. Does (Exactly (report_text p es cycles d))))

-- whose report is made
pub report-made : (held : Contents) (cycles : ℕ) (name description trace bytes : List ℕ) (p : Plan) (d : ℕ) (es : List Entry)
    → IsFound held cycles name description p d → trace ≡ held.trace
    → ((next : List Entry → Outcome) → with_trace p trace next ≡ next es) → bytes ≡ report_text p es cycles d
    → Makes (over (Report cycles name) held) bytes
report-made held cycles name description trace bytes p d es f t entries is =
    Makes-exactly _ (report_text p es cycles d) bytes
    (traced-is held cycles name description trace p d f t ∙ entries (λ xs. Does (Exactly (report_text p xs cycles d)))) is
