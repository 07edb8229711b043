use Rattle.noc_model.proofs.SoundExamples.{two_tiles-sound}
use Rattle.worked_plans.proofs.two_tiles.Goals as goal

pub plan_in-requires : goal.plan_in-requires
plan_in-requires c = rw (c.host.ensures, c.host-2.ensures, c.host-3.ensures, c.host-4.ensures, c.range.ensures, c.range-2.ensures) two_tiles-sound
