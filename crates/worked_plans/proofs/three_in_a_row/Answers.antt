use Rattle.noc_model.proofs.SoundExamples.{three_in_a_row-sound}
use Rattle.worked_plans.proofs.three_in_a_row.Goals as goal

pub plan_in-requires : goal.plan_in-requires
plan_in-requires c = rw (c.host.ensures, c.host-2.ensures, c.host-3.ensures, c.range.ensures) three_in_a_row-sound
