use Rattle.std.proofs.Common.{◌≡◌, map}
use Rattle.std.specs.List.{filter, range_with_len}
use Rattle.noc_model.specs.Plan.{name_of, hosts}
use Rattle.desc_check.proofs.upgrade.hosted_by.Given as goal

abbrev pub invariant-loop-d : goal.invariant-loop-d
invariant-loop-d l = l.names ≡ map (name_of l.plan) (filter (hosts l.plan l.tile) (range_with_len 0 l.d))
