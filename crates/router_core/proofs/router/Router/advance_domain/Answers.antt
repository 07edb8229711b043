use Rattle.std.proofs.Common.{◌∙◌, ◌<◌, None, length, length-set, sym, ap, subst, arith}
use Rattle.std.specs.Prelude.{pos}
use Rattle.noc_model.specs.Step.{sent}
use Rattle.vc_alloc.specs.Allocator.{best_at}
use Rattle.router_core.specs.Attachments.{told_at, outside}
use Rattle.router_core.specs.Crossing.{laid, switched}
use Rattle.router_core.specs.Parts.{Parts}
use Rattle.router_core.specs.Pulses.{ArePulses}
use Rattle.router_core.proofs.Advanced.{ports-some, lifted-other, eject-is, open-room, cycled-is, whole-step}
use Rattle.router_core.proofs.router.Router.advance_domain.Goals as goal

pub lift-requires : goal.lift-requires
lift-requires c = let a = c.requires.links in let b = ports-some c.args.plan.now in omega (arith, a, b)

pub move_flits-requires-clause-links : goal.move_flits-requires-clause-links
move_flits-requires-clause-links c = ap length c.lift.ensures ∙ length-set c.args.links.now 0 None ∙ c.requires.links

pub ejecting-eject-requires : goal.ejecting-eject-requires
ejecting-eject-requires c =
    let a = c.move_flits.ensures.links in
    let b = ap length c.lift.ensures ∙ length-set c.args.links.now 0 None in
    let e = c.requires.links in
    let f = ports-some c.args.plan.now in
    omega (arith, a, b, e, f)

pub attach-requires-clause-room : goal.attach-requires-clause-room
attach-requires-clause-room c = λ is_taking.
    let ready = c.requires.ready in
    open-room c.args.plan.now c.args.d c.args.self.now c.move_flits.new.self c.ready-ready.result ready c.move_flits.ensures.made c.requires.domain
    (c.ready-ready.ensures ready.tile ready.shows) (c.move_flits.ensures.own ready.tile ready.cycle ready.shows ready.stands) is_taking

pub returns-clause-rest : goal.returns-clause-rest
returns-clause-rest c = cycled-is c.args.self.now c.move_flits.new.self c.attach.new.self c.args.plan.now c.args.d _ _ _ c.move_flits.ensures.rest c.attach.ensures.value

pub returns-clause-own : goal.returns-clause-own
returns-clause-own c = λ s t shown stands.
    let p = c.args.plan.now in
    let d = c.args.d in
    let r = c.args.self.now in
    let inside : 0 < length c.args.links.now = let a = c.requires.links in let b = ports-some p in omega (arith, a, b) in
    whole-step p d r c.move_flits.new.self c.attach.new.self c.ready-ready.result c.ejecting-eject.result s t c.requires.ready
    (ap (λ (z : Parts). told_at z.told d) c.move_flits.ensures.rest) shown (c.ready-ready.ensures s shown)
    (c.ejecting-eject.ensures
    ∙ eject-is c.args.links.now c.lift.new.links c.move_flits.new.links (sent p d r.tile (pos t) s (outside (told_at r.told d)) 0) inside c.lift.ensures
    (c.move_flits.ensures.sent s t 0 shown stands (ports-some p)))
    (c.attach.ensures.own (switched p d r.tile (pos t) s (outside (told_at r.told d))) (c.move_flits.ensures.own s t shown stands))

pub returns-clause-sent : goal.returns-clause-sent
returns-clause-sent c = λ s t o shown stands linked o_in.
    let p = c.args.plan.now in
    let d = c.args.d in
    let r = c.args.self.now in
    c.move_flits.ensures.sent s t o shown stands o_in
    ∙ ap (laid (sent p d r.tile (pos t) s (outside (told_at r.told d)) o)) (lifted-other c.args.links.now c.lift.new.links o c.lift.ensures linked)

pub returns-clause-others : goal.returns-clause-others
returns-clause-others c = λ e s apart shown. c.attach.ensures.others e s apart (c.move_flits.ensures.others e s apart shown)

pub returns-clause-quiet : goal.returns-clause-quiet
returns-clause-quiet c = λ o. ap (λ (z : Parts). best_at z.allocator o) c.attach.ensures.value ∙ c.move_flits.ensures.quiet o

pub returns-clause-links : goal.returns-clause-links
returns-clause-links c = c.move_flits.ensures.links ∙ ap length c.lift.ensures ∙ length-set c.args.links.now 0 None

pub returns-clause-pulses : goal.returns-clause-pulses
returns-clause-pulses c = λ are.
    let P : Parts → Type 0 = λ r. ArePulses c.args.plan.now r.pulses in
    subst P (sym c.attach.ensures.value) (c.move_flits.ensures.pulses are)
