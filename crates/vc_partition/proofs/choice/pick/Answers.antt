use Rattle.std.proofs.Common.{length}
use Rattle.vc_partition.specs.Picks.{member}
use Rattle.vc_partition.proofs.Picks.{pick-later, pick-first, none-there}
use Rattle.vc_partition.proofs.choice.pick.Goals as goal

pub returns-in-Some-clause-value : goal.returns-in-Some-clause-value
returns-in-Some-clause-value c =
    pick-later (length c.args.set.now) (member c.args.set.now) c.args.pointer c.in-Some.k c.in-Some.ensures.value

pub returns-in-None-clause-value : goal.returns-in-None-clause-value
returns-in-None-clause-value c =
    pick-first (length c.args.set.now) (member c.args.set.now) c.args.pointer c.first_from-in-None.result c.in-None.ensures.value c.first_from-in-None.ensures.value

pub returns-in-None-clause-empty : goal.returns-in-None-clause-empty
returns-in-None-clause-empty c =
    none-there c.args.set.now c.first_from-in-None.result c.first_from-in-None.ensures.value
