use Rattle.slot_switch.proofs.Defined.{chosen-is, granted-is, grant-granted}
use Rattle.slot_switch.proofs.laws.grants_as_defined.Goals as goal

pub returns-clause-chosen : goal.returns-clause-chosen
returns-clause-chosen c = λ x p d n o t s i asks there. chosen-is x p d n t s i asks o there

pub returns-clause-granted : goal.returns-clause-granted
returns-clause-granted c = λ x p d n o t s i r asks there e. granted-is x p d n t s i asks o r there e

pub returns-clause-all : goal.returns-clause-all
returns-clause-all c = λ x p d n port t s i g asks there out e. grant-granted x p d n t s i asks port g there out e
