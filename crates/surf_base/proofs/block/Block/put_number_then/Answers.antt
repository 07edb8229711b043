use Rattle.std.proofs.Common.{[], ◌∷◌}
use Rattle.std.specs.Fmt.{decimal}
use Rattle.surf_base.proofs.Blocks.{Writes-then, BreaksOff-more}
use Rattle.surf_base.proofs.block.Block.put_number_then.Goals as goal

pub returns-in-Ok : goal.returns-in-Ok
returns-in-Ok g c =
    Writes-then c.put.result _ _ _ (decimal c.args.value) (c.args.end ∷ []) c.in-Ok.ensures c.put.ensures

pub returns-in-Err : goal.returns-in-Err
returns-in-Err g c = BreaksOff-more _ _ (decimal c.args.value) (c.args.end ∷ []) c.in-Err.ensures
