use Rattle.std.proofs.Common.{◌∙◌, ◌<◌, length, arith}
use Rattle.router_core.proofs.Advanced.{ready-still, advances-none, advances-more}
use Rattle.router_core.proofs.router.Router.advance_links.Goals as goal

pub loop-d-init : goal.loop-d-init
loop-d-init c =
    advances-none c.args.plan.now c.args.self.now c.empty_links.new.links c.requires.made c.requires.quiet (c.empty_links.ensures.count ∙ c.requires.links)
    (λ o o_in. c.empty_links.ensures.none o (let a = c.requires.links in omega (arith, a, o_in)))

pub advance_or_rest-requires-clause-ready : goal.advance_or_rest-requires-clause-ready
advance_or_rest-requires-clause-ready c =
    let m = c.loop-d.d in
    let before = c.loop-d.invariant in
    let there : m < length c.args.plan.now.domains = let a = c.domains-d-end.ensures in omega (arith, a, c.loop-d-test.true) in
    ready-still c.args.plan.now m c.args.self.now c.loop-d.self before.rest (λ s shown. before.waits m s (omega arith) shown) (c.requires.ready m there)

pub loop-d-preserved : goal.loop-d-preserved
loop-d-preserved c =
    let m = c.loop-d.d in
    let there : m < length c.args.plan.now.domains = let a = c.domains-d-end.ensures in omega (arith, a, c.loop-d-test.true) in
    advances-more m c.args.plan.now c.args.self.now c.loop-d.self c.advance_or_rest.new.self c.loop-d.links c.advance_or_rest.new.links c.loop-d.invariant (c.requires.ready m there)
    c.advance_or_rest.ensures.rest c.advance_or_rest.ensures.made c.advance_or_rest.ensures.quiet c.advance_or_rest.ensures.pulses c.advance_or_rest.ensures.links c.advance_or_rest.ensures.own c.advance_or_rest.ensures.sent
    c.advance_or_rest.ensures.others

pub returns-clause-pulses : goal.returns-clause-pulses
returns-clause-pulses c = c.loop-d.invariant.kept
