use Rattle.std.proofs.Common.{◌≡◌, ◌<◌, ℕ, false}
use Rattle.route_stage.specs.Routed.{stage_at}
use Rattle.router_core.specs.Asks.{AsksBelow}
use Rattle.router_core.specs.Buffers.{flits_at}
use Rattle.router_core.specs.Idle.{has_head}
use Rattle.router_core.proofs.Asked.{asking_parts}
use Rattle.router_core.proofs.router.Router.ask_all.Given as goal

abbrev pub invariant-loop-k : goal.invariant-loop-k
invariant-loop-k l = record {
  rest : l.self ≡ asking_parts l.initial.self l.self.switch;
  knows : AsksBelow l.k l.plan l.d l.initial.self l.self.switch;
  heads : l.waits ≡ false → (k : ℕ) → k < l.k
      → has_head (stage_at l.initial.self.stages l.d k) (flits_at l.initial.self.buffers l.d k) ≡ false;
}
