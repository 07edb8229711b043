-- The test of a domain's name decides whether it is the name.
use Rattle.std.proofs.Common.{sym, ◌∙◌, below_more}
use Rattle.std.proofs.lemmas.Bool.Decides.{Decides-eqb, not_from_Decides}
use Rattle.std.proofs.lemmas.Slice.Eq.{slice_eq-Decides}
use Rattle.noc_model.proofs.Named.{name_at-read}
use Rattle.noc_model.proofs.domains.find_in.Goals as goal

pub returns-then-eq-clause-found : goal.returns-then-eq-clause-found
returns-then-eq-clause-found c =
    let named =
    name_at-read c.args.domains.now c.loop-d.d c.index-domains-d.result c.loop-d-test.true c.index-domains-d.is in
    let decides = slice_eq-Decides Decides-eqb c.as_slice.result.now c.args.name.now c.eq.result c.eq.ensures in
    (c.loop-d-test.true, named ∙ sym c.as_slice.ensures ∙ decides.0 c.if-eq.true)

pub loop-d-preserved : goal.loop-d-preserved
loop-d-preserved c =
    let named =
    name_at-read c.args.domains.now c.loop-d.d c.index-domains-d.result c.loop-d-test.true c.index-domains-d.is in
    let decides = slice_eq-Decides Decides-eqb c.as_slice.result.now c.args.name.now c.eq.result c.eq.ensures in
    below_more _ _ c.loop-d.invariant
    (λ same. not_from_Decides c.eq.result decides c.if-eq.false (c.as_slice.ensures ∙ sym named ∙ same))
