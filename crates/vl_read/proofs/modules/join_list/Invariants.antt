use Rattle.std.proofs.Common.{◌≡◌, length}
use Rattle.vl_read.specs.View.{placed}
use Rattle.vl_read.specs.Parts as parts
use Rattle.vl_read.specs.Lists.{more_of}
use Rattle.vl_read.proofs.modules.join_list.Given as goal

abbrev pub invariant-joins : goal.invariant-joins
invariant-joins l = more_of (l.joins) (parts.joins_at (placed l.rest)) ≡ parts.joins_at (placed l.ts)

abbrev pub decreases-joins : goal.decreases-joins
decreases-joins l = length (placed l.rest)
