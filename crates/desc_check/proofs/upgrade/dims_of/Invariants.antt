use Rattle.std.proofs.Common.{◌≡◌, map, take, pos}
use Rattle.desc_check.proofs.upgrade.dims_of.Given as goal

abbrev pub invariant-loop-i : goal.invariant-loop-i
invariant-loop-i l = l.dims ≡ map (λ k. pos k) (take l.i l.plan.dims)
