use Rattle.std.proofs.Common.{arith}
use Rattle.flit_word.proofs.widths.channel_bits.Goals as goal

pub returns-clause-few : goal.returns-clause-few
returns-clause-few c = c.bits.ensures.least 3 (omega arith) (omega (arith, c.max_link_channels.ensures.few))
