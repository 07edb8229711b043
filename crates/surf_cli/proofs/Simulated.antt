-- The events of a run that a whole trace drives are those of each domain's own entries.
use Rattle.std.proofs.Common.{◌≡◌, ◌<◌, ◌==◌, ℕ, true, List, length, filter, refl, sym, ap, ◌∙◌, subst, arith}
use Rattle.std.specs.Prelude.{slice_get}
use Rattle.std.proofs.lemmas.Bool.Decides.{nat_tests}
use Rattle.noc_model.specs.declared.Event.{Event}
use Rattle.noc_model.specs.declared.Ejected.{Ejected}
use Rattle.noc_model.specs.Plan.{Plan}
use Rattle.noc_model.specs.Run.{start}
use Rattle.noc_model.specs.Driver.{Driver, driven_events}
use Rattle.noc_model.proofs.OwnAttachments.{IsOwn, DoAlike, driven_events-same}
use Rattle.trace_read.specs.declared.entries.Entry.{Entry}
use Rattle.trace_read.specs.Restrict.{is_domain, of_domain}
use Rattle.tile_drive.specs.TraceDriver.{trace_driver, untaken}
use Rattle.tile_drive.proofs.Restricted.{restricted_offer, restricted_hears}
use Rattle.noc_model.specs.Report.{report}
use Rattle.surf_cli.specs.Simulate.{AreAlone, events_of, events_alone, report_text, reports_of, reports_text}
use Rattle.surf_cli.proofs.Texts.{texts-same}

own-domain : (p : Plan) (d j : ℕ) → IsOwn p d j → is_domain d (slice_get p.hosts j) ≡ true
own-domain p d j own =
    let same : (own.host.domain == d) ≡ true = (let e = own.own in grind (arith, nat_tests)) in
    ap (is_domain d) own.at ∙ same

same-taken : (p : Plan) (es fs : List Entry) (j : ℕ) (state : List ℕ) (t : ℕ) → (trace_driver p es).taken j state t ≡ (trace_driver p fs).taken j state t
unfolding trace_driver
same-taken p es fs j state t = refl

same-got : (p : Plan) (es fs : List Entry) (j : ℕ) (state : List ℕ) (t : ℕ) (e : Ejected) → (trace_driver p es).got j state t e ≡ (trace_driver p fs).got j state t e
unfolding trace_driver
same-got p es fs j state t e = refl

-- a trace and the domain's own entries do the same at the domain's attachments
pub alike : (p : Plan) (d j : ℕ) (es : List Entry) → IsOwn p d j → DoAlike (trace_driver p es) (trace_driver p (of_domain p d es)) j
alike p d j es own = record {
  offer = λ state t. sym (restricted_offer p d j es state t (own-domain p d j own));
  hears = λ state t. sym (restricted_hears p d j es state t (own-domain p d j own));
  taken = same-taken p es (of_domain p d es) j;
  got = same-got p es (of_domain p d es) j;
}

-- what a run over the whole trace says of each domain
pub run-alone : (p q : Plan) (v : Driver) (states : ℕ → List ℕ) (events : List Event) (es : List Entry) (cycles : ℕ) → q ≡ p → v ≡ trace_driver p es → ((j : ℕ) → states j ≡ untaken)
    → ((d : ℕ) → d < length q.domains → filter (λ (e : Event). e.domain == d) events ≡ driven_events q d v cycles 0 (start q) states) → AreAlone p events es cycles
run-alone p q v states events es cycles same driver untouched each d less =
    each d (subst (λ (x : Plan). d < length x.domains) (sym same) less)
    ∙ ap (λ (x : Plan). driven_events x d v cycles 0 (start x) states) same
    ∙ ap (λ (w : Driver). driven_events p d w cycles 0 (start p) states) driver
    ∙ driven_events-same p d (trace_driver p es) (trace_driver p (of_domain p d es)) cycles 0 (start p) states (λ j. untaken) (λ j own. alike p d j es own) (λ j own. untouched j)

-- the report of these events is that of the domain alone
pub report-alone : (p : Plan) (events : List Event) (es : List Entry) (cycles d : ℕ) → events_of events d ≡ events_alone p es cycles d → report p d (events_of events d) ≡ report_text p es cycles d
unfolding report_text
report-alone p events es cycles d same = ap (report p d) same

-- the reports of these events are those of each domain alone
pub reports-alone : (p : Plan) (events : List Event) (es : List Entry) (cycles : ℕ) → AreAlone p events es cycles → reports_of p (events_of events) ≡ reports_text p es cycles
unfolding reports_of
reports-alone p events es cycles alone =
    texts-same (length p.domains) (λ d. report p d (events_of events d)) (report_text p es cycles) (λ d less. report-alone p events es cycles d (alone d less))
