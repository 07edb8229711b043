use Rattle.std.proofs.Common.{◌∙◌, ap, replicate, true}
use Rattle.cycle_sim.proofs.Fresh.{start-shown, start-whole, scratch, all-awake}
use Rattle.cycle_sim.proofs.net.Net.new.Goals as goal

pub invariant_of-result : goal.invariant_of-result
invariant_of-result c = (
  start-whole c.args.plan c.in_ok-routers.routers.items c.in_ok-rows.rows.items c.known.ensures c.in_ok-routers.ensures.count c.in_ok-routers.ensures.fresh c.in_ok-rows.ensures,
  scratch c.args.plan c.in_ok-pulses.pulses.items c.in_ok-outs.outs.items c.in_ok-pulses.ensures c.in_ok-outs.ensures.count c.in_ok-outs.ensures.links,
  all-awake c.args.plan c.in_ok-routers.routers.items c.in_ok-rows.rows.items c.in_ok-pulses.pulses.items c.in_ok-awake.awake.items c.in_ok-routers.ensures.count
      (c.in_ok-awake.ensures.items_if_clones_equal (λ y e. e) ∙ ap (λ n. replicate n true) c.tiles.ensures),
  c.in_ok-near.ensures,
)

pub returns-clause-starts : goal.returns-clause-starts
returns-clause-starts c =
    start-shown c.args.plan c.in_ok-routers.routers.items c.in_ok-rows.rows.items c.known.ensures c.in_ok-routers.ensures.count c.in_ok-routers.ensures.fresh c.in_ok-rows.ensures
