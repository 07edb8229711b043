-- Each step keeps the sum, and what holds of each tile.
use Rattle.noc_model.proofs.Kept.{channel_sum-law}
use Rattle.noc_model.proofs.StateKept.{run-sound}
use Rattle.noc_model.proofs.laws.channel_sum.Goals as goal

pub returns-clause-sum : goal.returns-clause-sum
returns-clause-sum c = channel_sum-law

pub returns-clause-states : goal.returns-clause-states
returns-clause-states c = run-sound
