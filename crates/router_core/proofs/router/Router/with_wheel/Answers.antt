use Rattle.std.proofs.Common.{sym, subst}
use Rattle.router_core.specs.Parts.{Parts}
use Rattle.router_core.specs.Sizes.{IsMade}
use Rattle.router_core.proofs.Start.{start-is, start-made}
use Rattle.router_core.proofs.router.Router.with_wheel.Goals as goal

pub returns-clause-value : goal.returns-clause-value
returns-clause-value c =
    start-is c.args.plan.now c.args.tile _ _ _ _ _ _ _ _ c.args.wheel c.in_ok-buffers.ensures c.in_ok-stages.ensures c.in_ok-pulses.ensures c.in_ok-allocator.ensures.start c.in_ok-switch.ensures.start
    c.in_ok-credits.ensures c.in_ok-attachments.ensures c.in_ok-told.ensures

pub returns-clause-made : goal.returns-clause-made
returns-clause-made c =
    let P : Parts → Type 0 = λ r. IsMade r c.args.plan.now in
    subst P (sym (returns-clause-value c)) (start-made c.args.plan.now c.args.tile c.args.wheel c.known.ensures c.requires.tile c.requires.wheel)
