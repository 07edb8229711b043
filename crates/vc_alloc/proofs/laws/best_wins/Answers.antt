use Rattle.vc_alloc.proofs.Chosen.{winner-place, winner-channel, free-is}
use Rattle.vc_alloc.proofs.laws.best_wins.Goals as goal

pub returns-clause-place : goal.returns-clause-place
returns-clause-place c = winner-place

pub returns-clause-channel : goal.returns-clause-channel
returns-clause-channel c = winner-channel

pub returns-clause-free : goal.returns-clause-free
returns-clause-free c = free-is
