use Rattle.noc_model.proofs.SoundExamples.{ring_of_four-sound}
use Rattle.worked_plans.proofs.ring_of_four.Goals as goal

pub plan_in-requires : goal.plan_in-requires
plan_in-requires c = rw (c.host.ensures, c.host-2.ensures, c.range.ensures) ring_of_four-sound
