use Rattle.std.proofs.Common.{◌≡◌, ◌++◌}
use Rattle.gen_top.specs.Joined.{joins_of, ties_below}
use Rattle.gen_top.proofs.joins.all_link_joins.Given as goal

abbrev pub invariant-loop-port : goal.invariant-loop-port
invariant-loop-port l = l.joins ≡ l.fn.joins ++ joins_of (ties_below l.plan l.tile l.port)
