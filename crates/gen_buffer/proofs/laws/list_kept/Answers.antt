use Rattle.gen_buffer.proofs.Queue.{fifo-kept}
use Rattle.gen_buffer.proofs.laws.list_kept.Goals as goal

pub returns : goal.returns
returns c = fifo-kept
