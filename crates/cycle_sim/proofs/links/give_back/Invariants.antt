use Rattle.std.proofs.Common.{◌≡◌, ◌≤◌, ◌<◌, ℕ, length}
use Rattle.noc_model.specs.Plan.{ports}
use Rattle.noc_model.specs.Tile.{Tile}
use Rattle.router_core.specs.Sizes.{IsMade}
use Rattle.router_core.specs.Shown.{Shows}
use Rattle.cycle_sim.specs.Links.{credit_at, repaid}
use Rattle.cycle_sim.proofs.Comings.{with_credits}
use Rattle.cycle_sim.proofs.links.give_back.Given as goal

abbrev pub invariant-loop-port : goal.invariant-loop-port
invariant-loop-port l = record {
  within : l.port ≤ ports l.plan;
  rest : l.router ≡ with_credits l.initial.router l.router.credits;
  made : IsMade l.router l.plan;
  shows : (d : ℕ) (s : Tile) → d < length l.plan.domains → Shows l.initial.router l.plan d s
      → Shows l.router l.plan d (repaid (credit_at l.plan d l.tile l.pulses) l.port s);
}
