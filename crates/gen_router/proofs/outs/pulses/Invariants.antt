use Rattle.std.proofs.Common.{◌+◌}
use Rattle.gen_router.specs.Outs.{credit_net}
use Rattle.leaf_parts.proofs.Rows.{IsBegun}
use Rattle.gen_router.proofs.outs.pulses.Given as goal

abbrev pub invariant-loop-k : goal.invariant-loop-k
invariant-loop-k l = IsBegun (λ r. credit_net l.plan l.port (l.first + r)) (l.count) l.k l.row
