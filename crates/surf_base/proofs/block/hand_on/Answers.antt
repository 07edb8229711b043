use Rattle.std.proofs.Common.{sym}
use Rattle.surf_base.proofs.Blocks.{BreaksOff-within}
use Rattle.surf_base.proofs.block.hand_on.Goals as goal

pub returns-in-Err-clause-writes : goal.returns-in-Err-clause-writes
returns-in-Err-clause-writes g c =
    BreaksOff-within _ _ c.args.bytes.now.items _ _ _ (rw (sym c.as_slice.ensures.value) c.in-Err.ensures.prefix) c.in-Err.ensures.faults c.in-Err.ensures.rose
