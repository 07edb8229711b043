use Rattle.std.proofs.Common.{sym, subst}
use Rattle.tile_iface.specs.Iface.{taken}
use Rattle.router_core.specs.Attachments.{told_at}
use Rattle.router_core.specs.Attach.{attached}
use Rattle.router_core.specs.Parts.{Parts}
use Rattle.router_core.specs.Shown.{Shows}
use Rattle.router_core.proofs.Attached.{attached-own}
use Rattle.router_core.proofs.router.Router.attach.Goals as goal

pub returns-else-not-is_at_rest-clause-value : goal.returns-else-not-is_at_rest-clause-value
returns-else-not-is_at_rest-clause-value c = c.is_at_rest.ensures c.if-not-is_at_rest.false c.args.plan.now

pub returns-else-not-is_at_rest-clause-own : goal.returns-else-not-is_at_rest-clause-own
returns-else-not-is_at_rest-clause-own c = λ s shown.
    let p = c.args.plan.now in
    let d = c.args.d in
    let r = c.args.self.now in
    let w = taken c.args.ready (told_at r.told d).offer in
    let hears = (told_at r.told d).hears in
    let P : Parts → Type 0 = λ q. Shows q p d (attached p d s w c.args.eject hears) in
    subst P (sym (c.is_at_rest.ensures c.if-not-is_at_rest.false p)) (attached-own r p d w c.args.eject hears c.requires.made c.requires.domain s shown)
