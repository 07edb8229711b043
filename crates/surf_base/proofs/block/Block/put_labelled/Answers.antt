use Rattle.std.specs.Fmt.{decimal}
use Rattle.surf_base.proofs.Blocks.{Writes-then, BreaksOff-more}
use Rattle.surf_base.proofs.block.Block.put_labelled.Goals as goal

pub returns-in-Ok : goal.returns-in-Ok
returns-in-Ok g c =
    Writes-then c.put_number.result _ _ _ c.args.label.now (decimal c.args.value) c.in-Ok.ensures c.put_number.ensures

pub returns-in-Err : goal.returns-in-Err
returns-in-Err g c = BreaksOff-more _ _ c.args.label.now (decimal c.args.value) c.in-Err.ensures
