-- The reports of a text, and the answers of a replay.
use Rattle.std.proofs.Common.{◌≡◌, ◌<◌, ◌==◌, ℕ, List, length, filter, sym, ap, ◌∙◌, subst}
use Rattle.std.proofs.Math.Path.{fun_ext}
use Rattle.noc_model.specs.declared.Event.{Event}
use Rattle.noc_model.specs.Plan.{Plan}
use Rattle.noc_model.specs.Driver.{Driver}
use Rattle.noc_model.specs.Report.{report}
use Rattle.trace_read.specs.declared.entries.Entry.{Entry}
use Rattle.tile_drive.specs.TraceDriver.{trace_driver, untaken}
use Rattle.vl_tree.specs.Values.{Design}
use Rattle.gen_kit.specs.Replayed.{replayed, at_start}
use Rattle.surf_cli.specs.declared.statuses.End.{End}
use Rattle.surf_cli.specs.Contents.{Contents}
use Rattle.surf_cli.specs.Jobs.{Replay}
use Rattle.surf_cli.specs.Simulate.{events_of, reports_of}
use Rattle.surf_cli.specs.Replay.{AreReplayed, events_replayed, replayed_report, replayed_text}
use Rattle.surf_cli.specs.Meaning.{Outcome, Makes, Does, Exactly, with_plan, with_text, with_trace, over}
use Rattle.surf_cli.specs.Answers.{IsRefused}
use Rattle.surf_cli.proofs.Texts.{texts-same}
use Rattle.surf_cli.proofs.Makings.{Makes-exactly}

-- what a run of a text says, driven by the driver of a trace
pub run-replayed : (p : Plan) (d : Design) (v : Driver) (states : ℕ → List ℕ) (events : List Event) (es : List Entry) (cycles : ℕ) → v ≡ trace_driver p es → ((j : ℕ) → states j ≡ untaken)
    → ((k : ℕ) → k < length p.domains → filter (λ (e : Event). e.domain == k) events ≡ replayed p d v k cycles 0 (at_start d states)) → AreReplayed p d events es cycles
run-replayed p d v states events es cycles driver untouched each k less =
    each k less
    ∙ ap (λ (w : Driver). replayed p d w k cycles 0 (at_start d states)) driver
    ∙ ap (λ (s : ℕ → List ℕ). replayed p d (trace_driver p es) k cycles 0 (at_start d s)) (fun_ext untouched)

report-replayed : (p : Plan) (d : Design) (events : List Event) (es : List Entry) (cycles k : ℕ) → events_of events k ≡ events_replayed p d es cycles k → report p k (events_of events k) ≡ replayed_report p d es cycles k
unfolding replayed_report
report-replayed p d events es cycles k same = ap (report p k) same

-- the reports of these events are those of the text
pub reports-replayed : (p : Plan) (d : Design) (events : List Event) (es : List Entry) (cycles : ℕ) → AreReplayed p d events es cycles → reports_of p (events_of events) ≡ replayed_text p d es cycles
unfolding reports_of
reports-replayed p d events es cycles each =
    texts-same (length p.domains) (λ k. report p k (events_of events k)) (replayed_report p d es cycles) (λ k less. report-replayed p d events es cycles k (each k less))

-- ---- the command

abbrev driven : Contents → ℕ → Plan → Design → Outcome
driven held cycles p d = with_trace p held.trace (λ es. Does (Exactly (replayed_text p d es cycles)))

abbrev judged : Contents → ℕ → Plan → Outcome
judged held cycles p = with_text p held.text (driven held cycles p)

planned-is : (held : Contents) (cycles : ℕ) (description text : List ℕ) (p : Plan) → description ≡ held.description → text ≡ held.text
    → ((next : Plan → Outcome) → with_plan description next ≡ next p) → over (Replay cycles) held ≡ with_text p text (driven held cycles p)
planned-is held cycles description text p e t plan =
    ap (λ bytes. with_plan bytes (judged held cycles)) (sym e) ∙ plan (judged held cycles) ∙ ap (λ bytes. with_text p bytes (driven held cycles p)) (sym t)

-- whose text is refused
pub text-stops : (held : Contents) (cycles : ℕ) (description text : List ℕ) (p : Plan) (end : End) → description ≡ held.description → text ≡ held.text
    → ((next : Plan → Outcome) → with_plan description next ≡ next p) → ((next : Design → Outcome) → IsRefused (with_text p text next) end) → IsRefused (over (Replay cycles) held) end
text-stops held cycles description text p end e t plan refused =
    subst (λ o. IsRefused o end) (sym (planned-is held cycles description text p e t plan)) (refused (driven held cycles p))

-- what is known of a replay, once its text was judged
pub record IsJudged (held : Contents) (description text trace : List ℕ) (p : Plan) (d : Design) : Type 0 where
  pub description_is : description ≡ held.description
  pub text_is : text ≡ held.text
  pub trace_is : trace ≡ held.trace
  pub plan : (next : Plan → Outcome) → with_plan description next ≡ next p
  pub design : (next : Design → Outcome) → with_text p text next ≡ next d

judged-is : (held : Contents) (cycles : ℕ) (description text trace : List ℕ) (p : Plan) (d : Design) → IsJudged held description text trace p d
    → over (Replay cycles) held ≡ with_trace p trace (λ es. Does (Exactly (replayed_text p d es cycles)))
judged-is held cycles description text trace p d f =
    planned-is held cycles description text p f.description_is f.text_is f.plan
    ∙ f.design (driven held cycles p)
    ∙ ap (λ bytes. with_trace p bytes (λ es. Does (Exactly (replayed_text p d es cycles)))) (sym f.trace_is)

-- whose trace is refused
pub trace-stops : (held : Contents) (cycles : ℕ) (description text trace : List ℕ) (p : Plan) (d : Design) (end : End) → IsJudged held description text trace p d
    → ((next : List Entry → Outcome) → IsRefused (with_trace p trace next) end) → IsRefused (over (Replay cycles) held) end
trace-stops held cycles description text trace p d end f refused =
    subst (λ o. IsRefused o end) (sym (judged-is held cycles description text trace p d f)) (refused (λ es. Does (Exactly (replayed_text p d es cycles))))

-- whose reports are made
pub reports-made : (held : Contents) (cycles : ℕ) (description text trace bytes : List ℕ) (p : Plan) (d : Design) (es : List Entry) → IsJudged held description text trace p d
    → ((next : List Entry → Outcome) → with_trace p trace next ≡ next es) → bytes ≡ replayed_text p d es cycles → Makes (over (Replay cycles) held) bytes
reports-made held cycles description text trace bytes p d es f entries is =
    Makes-exactly _ (replayed_text p d es cycles) bytes
    (judged-is held cycles description text trace p d f ∙ entries (λ xs. Does (Exactly (replayed_text p d xs cycles)))) is
