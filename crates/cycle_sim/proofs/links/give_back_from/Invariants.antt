use Rattle.std.proofs.Common.{◌≡◌, ◌≤◌, ◌<◌, ℕ}
use Rattle.noc_model.specs.Tile.{Tile}
use Rattle.router_core.specs.Sizes.{IsMade}
use Rattle.router_core.specs.Shown.{Shows}
use Rattle.cycle_sim.specs.Links.{credit_at, returned}
use Rattle.cycle_sim.proofs.Comings.{with_credits}
use Rattle.cycle_sim.proofs.links.give_back_from.Given as goal

abbrev pub invariant-loop-d : goal.invariant-loop-d
invariant-loop-d l = record {
  rest : l.router ≡ with_credits l.initial.router l.router.credits;
  made : IsMade l.router l.plan;
  done : (e : ℕ) (s : Tile) → e < l.d → Shows l.initial.router l.plan e s
      → Shows l.router l.plan e (returned l.port (credit_at l.plan e l.tile l.pulses l.port) s);
  left : (e : ℕ) (s : Tile) → l.d ≤ e → Shows l.initial.router l.plan e s → Shows l.router l.plan e s;
}
