use Rattle.cycle_sim.proofs.Sleeping.{slept-router}
use Rattle.cycle_sim.proofs.tiles.step_or_sleep.Goals as goal

pub returns-else-awake-clause-slept : goal.returns-else-awake-clause-slept
returns-else-awake-clause-slept c = λ down.
    slept-router c.args.plan.now c.args.tile c.args.cycle c.args.router.now c.tick.new.self c.requires.router c.tick.ensures.rest c.tick.ensures.stands
