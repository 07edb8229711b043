use Rattle.std.proofs.Common.{◌∙◌, sym, ap, set}
use Rattle.std.proofs.lemmas.List.Edits.{map_over_more}
use Rattle.vl_run.specs.State.{part_edged}
use Rattle.vl_run.proofs.parts.edge_all.Goals as goal

pub loop-part-preserved : goal.loop-part-preserved
loop-part-preserved c =
    ap (set c.loop-part.parts c.loop-part.part-index) (c.edge.ensures ∙ ap (part_edged c.args.tops.now) (sym c.part-item.is))
    ∙ map_over_more (part_edged c.args.tops.now) c.args.parts.now c.loop-part.parts c.loop-part.part-index c.part-item.result c.loop-part-test.true c.loop-part.invariant c.part-item.is
