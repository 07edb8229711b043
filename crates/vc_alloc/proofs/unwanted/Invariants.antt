use Rattle.std.proofs.Common.{◌≡◌, replicate, None}
use Rattle.vc_alloc.proofs.unwanted.Given as goal

abbrev pub invariant-loop : goal.invariant-loop
invariant-loop l = l.best.items ≡ replicate l.counter None
