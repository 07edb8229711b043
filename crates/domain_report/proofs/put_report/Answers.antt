use Rattle.std.proofs.Common.{◌≡◌, List, ◌∷◌, [], ◌++◌, refl, ap, ◌∙◌, subst}
use Rattle.std.specs.Prelude.{codes, flat_map}
use Rattle.std.proofs.lemmas.Result.{err_from_is_err_and}
use Rattle.noc_model.specs.declared.Event.{Event}
use Rattle.noc_model.specs.Report.{event_line}
use Rattle.surf_base.specs.Block.{Puts, BreaksOff, Writes}
use Rattle.surf_base.proofs.Blocks.{Writes-then, Writes-err, Puts-then, BreaksOff-then, BreaksOff-more}
use Rattle.domain_report.specs.Counts.{counts_of, end_line}
use Rattle.domain_report.proofs.Lines.{own, report-is}
use Rattle.domain_report.proofs.put_report.Goals as goal

pub returns-in_err-put_title : goal.returns-in_err-put_title
returns-in_err-put_title g c =
    let es = own c.args.d c.args.events.now in
    let title = codes "domain " ++ c.name.result.now ++ 10 ∷ [] in
    let p = err_from_is_err_and c.from_residual.result c.from_residual.ensures.1 in
    subst (Writes c.from_residual.result _ _) (report-is c.args.plan.now c.args.d c.name.result.now es (counts_of es) c.name.ensures refl)
    (Writes-err c.from_residual.result p.0 _ _ (title ++ flat_map event_line es) (end_line (counts_of es)) p.1
    (BreaksOff-more _ _ title (flat_map event_line es) c.in_err-put_title.ensures))

pub returns-in_err-counts : goal.returns-in_err-counts
returns-in_err-counts g c =
    let es = own c.args.d c.args.events.now in
    let title = codes "domain " ++ c.name.result.now ++ 10 ∷ [] in
    let lines = ap (λ (xs : List Event). flat_map event_line (own c.args.d xs)) c.as_slice.ensures in
    let p = err_from_is_err_and c.from_residual-in_err-counts.result c.from_residual-in_err-counts.ensures.1 in
    subst (Writes c.from_residual-in_err-counts.result _ _) (report-is c.args.plan.now c.args.d c.name.result.now es (counts_of es) c.name.ensures refl)
    (Writes-err c.from_residual-in_err-counts.result p.0 _ _ (title ++ flat_map event_line es) (end_line (counts_of es)) p.1
    (BreaksOff-then _ _ _ title (flat_map event_line es) c.in_ok-put_title.ensures (subst (BreaksOff _ _) lines c.in_err-counts.ensures.lines)))

pub returns : goal.returns
returns g c =
    let es = own c.args.d c.args.events.now in
    let n = c.in_ok-counts.counts in
    let title = codes "domain " ++ c.name.result.now ++ 10 ∷ [] in
    let lines = ap (λ (xs : List Event). flat_map event_line (own c.args.d xs)) c.as_slice.ensures in
    let counted : n ≡ counts_of es =
    c.in_ok-counts.ensures.counts ∙ ap (λ (xs : List Event). counts_of (own c.args.d xs)) c.as_slice.ensures in
    subst (Writes c.put_counts.result _ _) (report-is c.args.plan.now c.args.d c.name.result.now es n c.name.ensures counted)
    (Writes-then c.put_counts.result _ _ _ (title ++ flat_map event_line es) (end_line n)
    (Puts-then _ _ _ title (flat_map event_line es) c.in_ok-put_title.ensures (subst (Puts _ _) lines c.in_ok-counts.ensures.lines)) c.put_counts.ensures)
