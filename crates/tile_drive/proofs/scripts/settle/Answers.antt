use Rattle.std.proofs.Common.{sym}
use Rattle.std.proofs.lemmas.List.Sorted.{list_any-IsPermutation}
use Rattle.tile_drive.specs.TraceDriver.{covers}
use Rattle.tile_drive.proofs.scripts.settle.Goals as goal

pub returns-clause-deaf : goal.returns-clause-deaf
returns-clause-deaf c = λ t. sym (list_any-IsPermutation (covers t) _ _ c.sort_spans.ensures.same)
