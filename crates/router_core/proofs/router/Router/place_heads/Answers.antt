use Rattle.router_core.proofs.Still.{placed-still}
use Rattle.router_core.proofs.router.Router.place_heads.Goals as goal

pub returns-else-waits-clause-own : goal.returns-else-waits-clause-own
returns-else-waits-clause-own c = λ s shown.
    let r = c.args.self.now in
    placed-still r c.args.plan.now c.args.d s shown (c.requires.waits c.if-waits.false) r.tile
