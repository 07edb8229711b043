use Rattle.std.proofs.Common.{◌≡◌, replicate, None}
use Rattle.cycle_sim.proofs.begin.rows_of.Given as goal

abbrev pub invariant-loop : goal.invariant-loop
invariant-loop l = l.rows.items ≡ replicate l.counter (replicate l.plan.stages None)
