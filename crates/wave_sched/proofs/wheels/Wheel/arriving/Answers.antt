use Rattle.wave_sched.proofs.Standing.{arriving-is}
use Rattle.wave_sched.proofs.wheels.Wheel.arriving.Goals as goal

pub returns-clause-value : goal.returns-clause-value
returns-clause-value c = λ p n t m stands link.
    arriving-is c.args.self.now p n t m c.args.port c.index.result.now c.owner_at.result c.deref.result.now stands c.args.self.now.here c.requires link c.deref.ensures.value c.index.ensures c.owner_at.ensures
