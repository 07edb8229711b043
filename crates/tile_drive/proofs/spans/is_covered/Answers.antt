use Rattle.tile_drive.proofs.SpanLemmas.{ends_for_all, covered_by}
use Rattle.tile_drive.proofs.spans.is_covered.Goals as goal

pub end_by-requires : goal.end_by-requires
end_by-requires c =
    ends_for_all c.args.spans.now c.args.ends.now c.begun_by-begun.result c.requires c.begun_by-begun.ensures.bound

pub returns : goal.returns
returns c =
    covered_by c.args.cycle _ c.args.spans.now c.args.ends.now c.begun_by-begun.result _ c.requires c.begun_by-begun.ensures.bound
    c.begun_by-begun.ensures.begun c.from.ensures c.end_by.ensures
