use Rattle.surf_base.proofs.Blocks.{Writes-written}
use Rattle.surf_base.proofs.block.put_first.Goals as goal

pub returns-clause-writes : goal.returns-clause-writes
returns-clause-writes g c =
    Writes-written c.write_all.result _ _ c.args.bytes.now.items c.args.piece.now _ _ c.requires.empty c.write_all.ensures.ok c.write_all.ensures.prefix c.write_all.ensures.rose c.write_all.ensures.faults
