use Rattle.std.proofs.Common.{[]}
use Rattle.surf_base.proofs.Blocks.{Writes-then, BreaksOff-more}
use Rattle.surf_base.proofs.block.put_in.Goals as goal

pub returns-in-Ok-clause-writes : goal.returns-in-Ok-clause-writes
returns-in-Ok-clause-writes g c =
    Writes-then c.put_first.result _ _ _ [] c.args.piece.now c.in-Ok.ensures.writes c.put_first.ensures.writes

pub returns-in-Err-clause-writes : goal.returns-in-Err-clause-writes
returns-in-Err-clause-writes g c = BreaksOff-more _ _ [] c.args.piece.now c.in-Err.ensures.writes
