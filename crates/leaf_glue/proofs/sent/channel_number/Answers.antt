use Rattle.std.proofs.Common.{arith}
use Rattle.flit_word.proofs.Bits.{link_channels-most}
use Rattle.leaf_glue.proofs.Sized.{some_channel_bits}
use Rattle.leaf_glue.proofs.sent.channel_number.Goals as goal

pub number-requires-clause-some : goal.number-requires-clause-some
number-requires-clause-some c = omega (arith, some_channel_bits c.args.plan.now, c.channel_bits.ensures.value)

pub number-requires-clause-value : goal.number-requires-clause-value
number-requires-clause-value c =
    omega (arith, c.requires.channel, link_channels-most c.args.plan.now c.args.domain, c.channel_bits.ensures.enough)
