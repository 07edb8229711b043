use Rattle.noc_model.proofs.SoundExamples.{weighted_slots-sound}
use Rattle.worked_plans.proofs.weighted_slots.Goals as goal

pub plan_in-requires : goal.plan_in-requires
plan_in-requires c = rw (c.host.ensures, c.host-2.ensures, c.host-3.ensures, c.host-4.ensures, c.range.ensures, c.range-2.ensures) weighted_slots-sound
