use Rattle.std.proofs.Common.{◌<◌, ◌*◌, ◌+◌, length, Some, get_or, [], sym, ap, ◌∙◌, subst, arith, ⊎_elim}
use Rattle.std.proofs.lemmas.List.{get_or_read}
use Rattle.std.proofs.lemmas.Bool.Decides.{eqb_tells}
use Rattle.noc_model.specs.Place.{opposite}
use Rattle.router_core.specs.Shown.{Shows, with_flit}
use Rattle.cycle_sim.specs.Links.{arrived}
use Rattle.cycle_sim.proofs.Numbers.{number-below, number-is, link-ends, back-port, arrival-own, arrival-other, arrival-empty}
use Rattle.cycle_sim.proofs.Comings.{arrived-none, arrived-some}
use Rattle.cycle_sim.proofs.links.receive_at.Goals as goal

pub bounds-rows-from : goal.bounds-rows-from
bounds-rows-from c =
    let p = c.args.plan.now in
    let linked = sym c.neighbour.ensures.value ∙ c.in-Some.is in
    let ends = link-ends p c.args.tile c.args.port c.in-Some.from c.known.ensures c.requires.tile linked in
    let back = back-port c.args.port c.port-back.result c.of_port.result c.opposite.result c.port-back.ensures c.opposite.ensures c.of_port.ensures in
    let at = number-is p c.in-Some.from (opposite c.args.port) c.ports.result c.port-back.result c.ports.ensures.value back in
    let low = number-below p c.in-Some.from (opposite c.args.port) ends.0 ends.1 in
    omega (arith, at, low, c.requires.rows)

pub arrive-requires-clause-channel : goal.arrive-requires-clause-channel
arrive-requires-clause-channel c =
    let p = c.args.plan.now in
    let d = c.arriving.result in
    let linked = sym c.neighbour.ensures.value ∙ c.in-Some.is in
    let ends = link-ends p c.args.tile c.args.port c.in-Some.from c.known.ensures c.requires.tile linked in
    let back = back-port c.args.port c.port-back.result c.of_port.result c.opposite.result c.port-back.ensures c.opposite.ensures c.of_port.ensures in
    let at = number-is p c.in-Some.from (opposite c.args.port) c.ports.result c.port-back.result c.ports.ensures.value back in
    let low = number-below p c.in-Some.from (opposite c.args.port) ends.0 ends.1 in
    let inside : c.in-Some.from * c.ports.result + c.port-back.result < length c.args.rows.now = omega (arith, at, low, c.requires.rows) in
    let read = get_or_read c.args.rows.now _ _ inside c.index-rows-from.is [] ∙ ap (λ k. get_or c.args.rows.now k []) at in
    let own = c.arriving.ensures.value p c.args.tile c.args.cycle c.in-Some.from c.requires.stands linked in
    let here = arrival-own p d c.args.tile c.args.cycle c.args.rows.now c.args.port c.in-Some.from linked c.index-rows-from.result (Some c.in-Some-last.x) (sym own) read (sym c.last.ensures ∙ c.in-Some-last.is) in
    (c.requires.room d c.in-Some-last.x (c.arriving.ensures.domain p c.args.tile c.args.cycle c.requires.stands) here).0

pub arrive-requires-clause-room : goal.arrive-requires-clause-room
arrive-requires-clause-room c =
    let p = c.args.plan.now in
    let d = c.arriving.result in
    let linked = sym c.neighbour.ensures.value ∙ c.in-Some.is in
    let ends = link-ends p c.args.tile c.args.port c.in-Some.from c.known.ensures c.requires.tile linked in
    let back = back-port c.args.port c.port-back.result c.of_port.result c.opposite.result c.port-back.ensures c.opposite.ensures c.of_port.ensures in
    let at = number-is p c.in-Some.from (opposite c.args.port) c.ports.result c.port-back.result c.ports.ensures.value back in
    let low = number-below p c.in-Some.from (opposite c.args.port) ends.0 ends.1 in
    let inside : c.in-Some.from * c.ports.result + c.port-back.result < length c.args.rows.now = omega (arith, at, low, c.requires.rows) in
    let read = get_or_read c.args.rows.now _ _ inside c.index-rows-from.is [] ∙ ap (λ k. get_or c.args.rows.now k []) at in
    let own = c.arriving.ensures.value p c.args.tile c.args.cycle c.in-Some.from c.requires.stands linked in
    let here = arrival-own p d c.args.tile c.args.cycle c.args.rows.now c.args.port c.in-Some.from linked c.index-rows-from.result (Some c.in-Some-last.x) (sym own) read (sym c.last.ensures ∙ c.in-Some-last.is) in
    (c.requires.room d c.in-Some-last.x (c.arriving.ensures.domain p c.args.tile c.args.cycle c.requires.stands) here).1

pub returns-in-Some-last-clause-shows : goal.returns-in-Some-last-clause-shows
returns-in-Some-last-clause-shows c = λ d s there shown.
    let p = c.args.plan.now in
    let k = c.arriving.result in
    let x = c.in-Some-last.x in
    let port = c.args.port in
    let new = c.arrive.new.self in
    let rows = c.args.rows.now in
    let linked = sym c.neighbour.ensures.value ∙ c.in-Some.is in
    let ends = link-ends p c.args.tile c.args.port c.in-Some.from c.known.ensures c.requires.tile linked in
    let back = back-port c.args.port c.port-back.result c.of_port.result c.opposite.result c.port-back.ensures c.opposite.ensures c.of_port.ensures in
    let at = number-is p c.in-Some.from (opposite c.args.port) c.ports.result c.port-back.result c.ports.ensures.value back in
    let low = number-below p c.in-Some.from (opposite c.args.port) ends.0 ends.1 in
    let inside : c.in-Some.from * c.ports.result + c.port-back.result < length c.args.rows.now = omega (arith, at, low, c.requires.rows) in
    let read = get_or_read c.args.rows.now _ _ inside c.index-rows-from.is [] ∙ ap (λ k. get_or c.args.rows.now k []) at in
    let own = c.arriving.ensures.value p c.args.tile c.args.cycle c.in-Some.from c.requires.stands linked in
    ⊎_elim
    (λ same.
    let here = arrival-own p d c.args.tile c.args.cycle rows port c.in-Some.from linked c.index-rows-from.result (Some x) (sym own ∙ sym same.1) read (sym c.last.ensures ∙ c.in-Some-last.is) in
    let came = c.arrive.ensures.own s (subst (λ e. Shows c.args.router.now p e s) same.1 shown) in
    subst (λ o. Shows new p d (arrived port o s)) (sym here) (arrived-some new p d port x s (subst (λ e. Shows new p e (with_flit s port x)) (sym same.1) came)))
    (λ other.
    let none = arrival-other p d c.args.tile c.args.cycle rows port c.in-Some.from linked (λ e. other.1 (sym e ∙ sym own)) in
    subst (λ o. Shows new p d (arrived port o s)) (sym none) (arrived-none new p d port s (c.arrive.ensures.others d s other.1 shown)))
    (eqb_tells d k)

pub returns-in_default-last-clause-shows : goal.returns-in_default-last-clause-shows
returns-in_default-last-clause-shows c = λ d s there shown.
    let p = c.args.plan.now in
    let port = c.args.port in
    let linked = sym c.neighbour.ensures.value ∙ c.in-Some.is in
    let ends = link-ends p c.args.tile port c.in-Some.from c.known.ensures c.requires.tile linked in
    let back = back-port port c.port-back.result c.of_port.result c.opposite.result c.port-back.ensures c.opposite.ensures c.of_port.ensures in
    let at = number-is p c.in-Some.from (opposite port) c.ports.result c.port-back.result c.ports.ensures.value back in
    let low = number-below p c.in-Some.from (opposite port) ends.0 ends.1 in
    let inside : c.in-Some.from * c.ports.result + c.port-back.result < length c.args.rows.now = omega (arith, at, low, c.requires.rows) in
    let read = get_or_read c.args.rows.now _ _ inside c.index-rows-from.is [] ∙ ap (λ k. get_or c.args.rows.now k []) at in
    let none = arrival-empty p d c.args.tile c.args.cycle c.args.rows.now port c.in-Some.from linked c.index-rows-from.result read (sym c.last.ensures ∙ c.in_default-last.is) in
    subst (λ o. Shows c.args.router.now p d (arrived port o s)) (sym none) (arrived-none c.args.router.now p d port s shown)
