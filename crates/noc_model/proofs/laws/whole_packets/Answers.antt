use Rattle.noc_model.proofs.WholePackets.{sent-whole, entered-whole, delivered-whole}
use Rattle.noc_model.proofs.laws.whole_packets.Goals as goal

pub returns-clause-sent : goal.returns-clause-sent
returns-clause-sent c = sent-whole

pub returns-clause-entered : goal.returns-clause-entered
returns-clause-entered c = entered-whole

pub returns-clause-delivered : goal.returns-clause-delivered
returns-clause-delivered c = delivered-whole
