use Rattle.std.proofs.Common.{◌≡◌, take}
use Rattle.std.specs.Prelude.{map}
use Rattle.worked_plans.specs.Shapes.{named}
use Rattle.worked_plans.proofs.domains_of.Given as goal

abbrev pub invariant-loop-name : goal.invariant-loop-name
invariant-loop-name l = l.domains.items ≡ map named (take l.name-index l.names)
