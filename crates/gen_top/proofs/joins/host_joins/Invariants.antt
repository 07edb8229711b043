use Rattle.std.proofs.Common.{◌≡◌, ◌++◌, take}
use Rattle.gen_kit.specs.Shape.{host_ties}
use Rattle.gen_top.specs.Joined.{joins_of}
use Rattle.gen_top.proofs.joins.host_joins.Given as goal

abbrev pub invariant-loop-kind : goal.invariant-loop-kind
invariant-loop-kind l = l.joins ≡ l.fn.joins ++ take l.kind (joins_of (host_ties l.host))
