use Rattle.noc_model.proofs.SoundExamples.{one_tile-sound}
use Rattle.worked_plans.proofs.one_tile.Goals as goal

pub plan_in-requires : goal.plan_in-requires
plan_in-requires c = rw (c.host.ensures, c.range.ensures) one_tile-sound
