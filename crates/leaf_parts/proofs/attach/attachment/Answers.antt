use Rattle.leaf_parts.proofs.attach.attachment.Goals as goal

pub returns-in-Heads : goal.returns-in-Heads
returns-in-Heads c = rw c.in-Heads.is c.heads.ensures

pub returns-in-Nets : goal.returns-in-Nets
returns-in-Nets c = rw c.in-Nets.is c.nets.ensures

pub returns-in-Moves : goal.returns-in-Moves
returns-in-Moves c = rw c.in-Moves.is c.moves.ensures
