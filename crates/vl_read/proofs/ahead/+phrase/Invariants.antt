use Rattle.std.proofs.Common.{length}
use Rattle.vl_read.proofs.ahead.+phrase.Given as goal

abbrev pub decreases-phrase : goal.decreases-phrase
decreases-phrase l = length l.text.now
