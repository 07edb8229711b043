use Rattle.noc_model.proofs.OwnPart.{run-own, outs-own, events-own}
use Rattle.noc_model.proofs.laws.own_part.Goals as goal

pub returns-clause-states : goal.returns-clause-states
returns-clause-states c = run-own

pub returns-clause-outputs : goal.returns-clause-outputs
returns-clause-outputs c = outs-own

pub returns-clause-events : goal.returns-clause-events
returns-clause-events c = events-own
