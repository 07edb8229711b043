use Rattle.std.proofs.Common.{length}
use Rattle.surf_cli.proofs.reading.+read_more.Given as goal

abbrev pub decreases-read_more : goal.decreases-read_more
decreases-read_more g l = length l.list.now
