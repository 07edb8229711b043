use Rattle.gen_buffer.proofs.Shown.{fifo-starts}
use Rattle.gen_buffer.proofs.laws.list_starts.Goals as goal

pub returns : goal.returns
returns c = fifo-starts
