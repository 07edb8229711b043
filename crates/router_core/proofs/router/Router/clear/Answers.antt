use Rattle.std.proofs.Common.{sym, subst}
use Rattle.router_core.specs.contracts.router.Router.{the_view}
use Rattle.router_core.specs.Parts.{Parts}
use Rattle.router_core.specs.Pulses.{ArePulses}
use Rattle.router_core.specs.Sizes.{IsMade}
use Rattle.router_core.specs.Shown.{Shows}
use Rattle.router_core.proofs.Cleared.{clear_parts, clear-made, clear-own, clear-others}
use Rattle.router_core.proofs.router.Router.clear.Goals as goal

pub returns-clause-rest : goal.returns-clause-rest
returns-clause-rest c = λ i. let r : Parts = c.self.view_is i in clear_parts r c.clear_ports.new.switch c.clear_ports.new.pulses

pub returns-clause-quiet : goal.returns-clause-quiet
returns-clause-quiet c = c.clear_ports.ensures.asked

pub returns-clause-own : goal.returns-clause-own
returns-clause-own c = λ s shown.
    let S : Parts → Type 0 = λ r. Shows r c.args.plan.now c.args.d s in
    clear-own c.args.plan.now c.args.d (the_view c.self.inside) c.clear_ports.new.switch c.clear_ports.new.pulses c.clear_ports.ensures s (subst S (sym c.self.view_is) shown)

pub returns-clause-others : goal.returns-clause-others
returns-clause-others c = λ e s apart shown.
    let S : Parts → Type 0 = λ r. Shows r c.args.plan.now e s in
    clear-others c.args.plan.now c.args.d (the_view c.self.inside) c.clear_ports.new.switch c.clear_ports.new.pulses c.clear_ports.ensures e s apart (subst S (sym c.self.view_is) shown)

pub returns-clause-made : goal.returns-clause-made
returns-clause-made c =
    let P : Parts → Type 0 = λ r. IsMade r c.args.plan.now in
    clear-made c.args.plan.now c.args.d (the_view c.self.inside) c.clear_ports.new.switch c.clear_ports.new.pulses c.clear_ports.ensures (subst P (sym c.self.view_is) c.requires.made)

pub returns-clause-pulses : goal.returns-clause-pulses
returns-clause-pulses c =
    let P : Parts → Type 0 = λ r. ArePulses c.args.plan.now r.pulses → ArePulses c.args.plan.now c.clear_ports.new.pulses in
    subst P c.self.view_is c.clear_ports.ensures.kept
