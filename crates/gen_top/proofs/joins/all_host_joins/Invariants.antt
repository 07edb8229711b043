use Rattle.std.proofs.Common.{◌≡◌, ◌++◌, take}
use Rattle.gen_top.specs.Joined.{joins_of, hosts_at}
use Rattle.gen_top.proofs.joins.all_host_joins.Given as goal

abbrev pub invariant-loop-j : goal.invariant-loop-j
invariant-loop-j l = l.joins ≡ l.fn.joins ++ joins_of (hosts_at l.tile (take l.j l.plan.hosts))
