use Rattle.std.proofs.Common.{◌≡◌, ◌<◌, ◌*◌, ◌/◌, ◌%◌, sym, ap, ◌∙◌, arith}
use Rattle.noc_model.specs.Plan.{tiles, ports}
use Rattle.noc_model.specs.Place.{neighbour}
use Rattle.cycle_sim.proofs.Numbers.{quotient-below, remainder-below, ends-more}
use Rattle.cycle_sim.proofs.near.Near.new.Goals as goal

pub neighbour-requires-clause-tile : goal.neighbour-requires-clause-tile
neighbour-requires-clause-tile c =
    let k = c.loop-k.k in
    let count = ap (λ b. c.tiles.result * b) (c.ports.ensures.value ∙ sym c.ports-in-loop-k.ensures.value) in
    let few = quotient-below k c.tiles.result c.ports-in-loop-k.result (omega (arith, count, c.loop-k-test.true)) in
    omega (arith, few, c.tiles.ensures)

pub neighbour-requires-clause-port : goal.neighbour-requires-clause-port
neighbour-requires-clause-port c =
    let k = c.loop-k.k in
    let count = ap (λ b. c.tiles.result * b) (c.ports.ensures.value ∙ sym c.ports-in-loop-k-2.ensures.value) in
    let low = remainder-below k c.tiles.result c.ports-in-loop-k-2.result (omega (arith, count, c.loop-k-test.true)) in
    omega (arith, low, c.ports-in-loop-k-2.ensures.value)

pub loop-k-preserved : goal.loop-k-preserved
loop-k-preserved c =
    let p = c.args.plan.now in
    let k = c.loop-k.k in
    ends-more p c.loop-k.ends.items _ k c.neighbour.result c.in_ok-push.ensures.items c.loop-k.invariant
    (c.neighbour.ensures.value ∙ ap (λ b. neighbour p (k / b) (k % c.ports-in-loop-k-2.result)) c.ports-in-loop-k.ensures.value
    ∙ ap (λ b. neighbour p (k / ports p) (k % b)) c.ports-in-loop-k-2.ensures.value)
