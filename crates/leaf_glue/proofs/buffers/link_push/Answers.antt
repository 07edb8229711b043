use Rattle.std.proofs.Common.{arith}
use Rattle.leaf_glue.proofs.Sized.{some_channel_bits}
use Rattle.leaf_glue.proofs.buffers.link_push.Goals as goal

pub part-requires : goal.part-requires
part-requires c = omega (arith, some_channel_bits c.args.plan.now, c.channel_bits-bits.ensures.value)
