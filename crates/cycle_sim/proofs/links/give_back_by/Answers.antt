use Rattle.std.proofs.Common.{None, sym, subst, ◌∙◌}
use Rattle.router_core.specs.Shown.{Shows}
use Rattle.cycle_sim.specs.Links.{returned}
use Rattle.cycle_sim.proofs.Numbers.{credit-unlinked}
use Rattle.cycle_sim.proofs.Comings.{returned-none}
use Rattle.cycle_sim.proofs.links.give_back_by.Goals as goal

pub returns-in_default-clause-shows : goal.returns-in_default-clause-shows
returns-in_default-clause-shows c = λ d s there shown.
    let p = c.args.plan.now in
    let none = credit-unlinked p d c.args.tile c.args.pulses.now c.args.port (sym c.neighbour.ensures.value ∙ c.in_default.is) in
    subst (λ o. Shows c.args.router.now p d (returned c.args.port o s)) (sym none) (returned-none c.args.router.now p d c.args.port s shown)
