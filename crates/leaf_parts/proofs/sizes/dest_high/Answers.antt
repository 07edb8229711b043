use Rattle.std.proofs.Common.{arith}
use Rattle.leaf_parts.proofs.Found.{some_bits}
use Rattle.leaf_parts.proofs.sizes.dest_high.Goals as goal

pub overflow_sub-result : goal.overflow_sub-result
overflow_sub-result c = omega (arith, some_bits c.args.plan.now, c.dest_bits.ensures.value)

pub returns-clause-whole : goal.returns-clause-whole
returns-clause-whole c = omega (arith, some_bits c.args.plan.now, c.dest_bits.ensures.value)
