use Rattle.std.proofs.Common.{◌<◌, length, Some, None, [], sym, ap, ◌∙◌, subst, arith}
use Rattle.std.proofs.lemmas.List.{get_or_read}
use Rattle.noc_model.specs.Place.{opposite}
use Rattle.vc_partition.specs.Lanes.{lane}
use Rattle.router_core.specs.Shown.{Shows}
use Rattle.cycle_sim.specs.Links.{returned}
use Rattle.cycle_sim.proofs.Numbers.{link-ends, back-port, credit-linked, read-at}
use Rattle.cycle_sim.proofs.Comings.{returned-none, returned-some}
use Rattle.cycle_sim.proofs.links.give_back_at.Goals as goal

pub at-requires-clause-place : goal.at-requires-clause-place
at-requires-clause-place c =
    let p = c.args.plan.now in
    let m = c.args.from in
    let linked = c.requires.link in
    let ends = link-ends p c.args.tile c.args.port m c.known.ensures c.requires.tile linked in
    let back = back-port c.args.port c.port-back.result c.of_port.result c.opposite.result c.port-back.ensures c.opposite.ensures c.of_port.ensures in
    let inside : m < length c.args.pulses.now = let a = ends.0 in omega (arith, a, c.requires.pulses) in
    let read = get_or_read c.args.pulses.now _ _ inside c.index-pulses-from.is [] in
    let long = ap (λ v. length (lane v c.args.d)) read ∙ (c.requires.pulse_ports m ends.0).ports c.args.d c.requires.domain in
    let low = ends.1 in
    omega (arith, long, back, low)

pub restore-requires-clause-channel : goal.restore-requires-clause-channel
restore-requires-clause-channel c =
    let p = c.args.plan.now in
    let m = c.args.from in
    let linked = c.requires.link in
    let ends = link-ends p c.args.tile c.args.port m c.known.ensures c.requires.tile linked in
    let back = back-port c.args.port c.port-back.result c.of_port.result c.opposite.result c.port-back.ensures c.opposite.ensures c.of_port.ensures in
    let inside : m < length c.args.pulses.now = let a = ends.0 in omega (arith, a, c.requires.pulses) in
    let read = get_or_read c.args.pulses.now _ _ inside c.index-pulses-from.is [] in
    let here = read-at c.args.pulses.now c.index-pulses-from.result m c.args.d c.port-back.result (opposite c.args.port) c.at.result.now (Some c.in-Some.channel) read back c.at.ensures c.in-Some.is in
    (c.requires.room c.in-Some.channel (credit-linked p c.args.d c.args.tile c.args.pulses.now c.args.port m linked ∙ here)).0

pub restore-requires-clause-room : goal.restore-requires-clause-room
restore-requires-clause-room c =
    let p = c.args.plan.now in
    let m = c.args.from in
    let linked = c.requires.link in
    let ends = link-ends p c.args.tile c.args.port m c.known.ensures c.requires.tile linked in
    let back = back-port c.args.port c.port-back.result c.of_port.result c.opposite.result c.port-back.ensures c.opposite.ensures c.of_port.ensures in
    let inside : m < length c.args.pulses.now = let a = ends.0 in omega (arith, a, c.requires.pulses) in
    let read = get_or_read c.args.pulses.now _ _ inside c.index-pulses-from.is [] in
    let here = read-at c.args.pulses.now c.index-pulses-from.result m c.args.d c.port-back.result (opposite c.args.port) c.at.result.now (Some c.in-Some.channel) read back c.at.ensures c.in-Some.is in
    (c.requires.room c.in-Some.channel (credit-linked p c.args.d c.args.tile c.args.pulses.now c.args.port m linked ∙ here)).1

pub returns-in-Some-clause-own : goal.returns-in-Some-clause-own
returns-in-Some-clause-own c = λ s shown.
    let p = c.args.plan.now in
    let m = c.args.from in
    let linked = c.requires.link in
    let ends = link-ends p c.args.tile c.args.port m c.known.ensures c.requires.tile linked in
    let back = back-port c.args.port c.port-back.result c.of_port.result c.opposite.result c.port-back.ensures c.opposite.ensures c.of_port.ensures in
    let inside : m < length c.args.pulses.now = let a = ends.0 in omega (arith, a, c.requires.pulses) in
    let read = get_or_read c.args.pulses.now _ _ inside c.index-pulses-from.is [] in
    let here = read-at c.args.pulses.now c.index-pulses-from.result m c.args.d c.port-back.result (opposite c.args.port) c.at.result.now (Some c.in-Some.channel) read back c.at.ensures c.in-Some.is in
    subst (λ o. Shows c.restore.new.self p c.args.d (returned c.args.port o s)) (sym (credit-linked p c.args.d c.args.tile c.args.pulses.now c.args.port m linked ∙ here))
    (returned-some c.restore.new.self p c.args.d c.args.port c.in-Some.channel s (c.restore.ensures.own s shown))

pub returns-in_default-clause-own : goal.returns-in_default-clause-own
returns-in_default-clause-own c = λ s shown.
    let p = c.args.plan.now in
    let m = c.args.from in
    let linked = c.requires.link in
    let ends = link-ends p c.args.tile c.args.port m c.known.ensures c.requires.tile linked in
    let back = back-port c.args.port c.port-back.result c.of_port.result c.opposite.result c.port-back.ensures c.opposite.ensures c.of_port.ensures in
    let inside : m < length c.args.pulses.now = let a = ends.0 in omega (arith, a, c.requires.pulses) in
    let read = get_or_read c.args.pulses.now _ _ inside c.index-pulses-from.is [] in
    let here = read-at c.args.pulses.now c.index-pulses-from.result m c.args.d c.port-back.result (opposite c.args.port) c.at.result.now None read back c.at.ensures c.in_default.is in
    subst (λ o. Shows c.args.router.now p c.args.d (returned c.args.port o s)) (sym (credit-linked p c.args.d c.args.tile c.args.pulses.now c.args.port m linked ∙ here))
    (returned-none c.args.router.now p c.args.d c.args.port s shown)

pub bounds-pulses-from : goal.bounds-pulses-from
bounds-pulses-from c =
    let p = c.args.plan.now in
    let ends = link-ends p c.args.tile c.args.port c.args.from c.known.ensures c.requires.tile c.requires.link in
    let low = ends.0 in
    omega (arith, low, c.requires.pulses)

pub at-requires-clause-lane : goal.at-requires-clause-lane
at-requires-clause-lane c =
    let p = c.args.plan.now in
    let m = c.args.from in
    let ends = link-ends p c.args.tile c.args.port m c.known.ensures c.requires.tile c.requires.link in
    let inside : m < length c.args.pulses.now = let a = ends.0 in omega (arith, a, c.requires.pulses) in
    let read = get_or_read c.args.pulses.now _ _ inside c.index-pulses-from.is [] in
    let long = ap length read ∙ (c.requires.pulse_ports m ends.0).domains in
    omega (arith, long, c.requires.domain)
