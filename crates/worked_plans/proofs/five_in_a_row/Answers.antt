use Rattle.noc_model.proofs.SoundExamples.{five_in_a_row-sound}
use Rattle.worked_plans.proofs.five_in_a_row.Goals as goal

pub plan_in-requires : goal.plan_in-requires
plan_in-requires c = rw (c.host.ensures, c.host-2.ensures, c.host-3.ensures, c.host-4.ensures, c.host-5.ensures, c.host-6.ensures, c.range.ensures, c.range-2.ensures) five_in_a_row-sound
