use Rattle.std.proofs.Common.{arith}
use Rattle.std.proofs.lemmas.Grind.{common_steps}
use Rattle.desc_check.proofs.Lists.{range_with_len_more}
use Rattle.desc_check.proofs.make.own_slots.Goals as goal

pub loop-d-preserved : goal.loop-d-preserved
loop-d-preserved c = grind (arith, common_steps, range_with_len_more 0 c.loop-d.d)
