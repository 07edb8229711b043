use Rattle.noc_model.proofs.SoundExamples.{cube-sound}
use Rattle.worked_plans.proofs.cube.Goals as goal

pub plan_in-requires : goal.plan_in-requires
plan_in-requires c = rw (c.host.ensures, c.host-2.ensures, c.range.ensures) cube-sound
