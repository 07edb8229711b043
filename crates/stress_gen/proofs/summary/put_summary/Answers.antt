use Rattle.std.proofs.Common.{ℕ, List, filter, ap, ◌∙◌, subst}
use Rattle.std.specs.Prelude.{◌==◌}
use Rattle.surf_base.specs.Block.{Writes}
use Rattle.noc_model.specs.declared.Event.{Event}
use Rattle.noc_model.specs.Plan.{name_of}
use Rattle.domain_report.specs.Counts.{counts_of}
use Rattle.stress_gen.specs.Summary.{counts_line, summary_line}
use Rattle.stress_gen.proofs.summary.put_summary.Goals as goal

pub returns : goal.returns
unfolding summary_line
returns g c =
    let p = c.args.plan.now in
    let d = c.args.d in
    let whole =
    c.write_line-end.ensures.written ∙ ap (λ (name : List ℕ). counts_line name c.counts_of-counts.result) c.name.ensures
    ∙ ap (counts_line (name_of p d)) (c.counts_of-counts.ensures ∙ ap (λ (es : List Event). counts_of (filter (λ (e : Event). e.domain == d) es)) c.as_slice.ensures) in
    subst (Writes c.put.result _ _) whole c.put.ensures
