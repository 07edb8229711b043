use Rattle.std.proofs.Common.{arith}
use Rattle.leaf_glue.proofs.Sized.{some_channel_bits}
use Rattle.leaf_glue.proofs.sent.gated_channel.Goals as goal

pub gated-requires-clause-some : goal.gated-requires-clause-some
gated-requires-clause-some c = omega (arith, some_channel_bits c.args.plan.now, c.channel_bits-bits.ensures.value)
