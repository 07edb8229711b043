use Rattle.leaf_glue.proofs.buffers.local_buffer.Goals as goal

pub returns-in-Heads : goal.returns-in-Heads
returns-in-Heads c = rw c.in-Heads.is c.buffer_heads.ensures
