use Rattle.std.proofs.Common.{◌≡◌, None}
use Rattle.noc_model.specs.Pick.{least}
use Rattle.vc_partition.specs.Picks.{member, from_on}
use Rattle.vc_partition.proofs.choice.first_from.Given as goal

abbrev pub invariant-loop-k : goal.invariant-loop-k
invariant-loop-k l = least l.k (from_on l.from (member l.set)) ≡ None
