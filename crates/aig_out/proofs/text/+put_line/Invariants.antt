use Rattle.std.proofs.Common.{length}
use Rattle.aig_out.proofs.text.+put_line.Given as goal

abbrev pub decreases-put_line : goal.decreases-put_line
decreases-put_line g l = length l.more.now
