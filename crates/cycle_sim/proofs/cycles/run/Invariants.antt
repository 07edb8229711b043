use Rattle.std.proofs.Common.{◌≡◌, ◌<◌, ◌≤◌, ℕ, length}
use Rattle.std.specs.Prelude.{filter, ◌==◌}
use Rattle.noc_model.specs.declared.Event.{Event}
use Rattle.noc_model.specs.Run.{start}
use Rattle.noc_model.specs.Driver.{driven_events}
use Rattle.tile_drive.specs.Order.{MayFollow}
use Rattle.cycle_sim.proofs.Turns.{HasRun}
use Rattle.cycle_sim.proofs.cycles.run.Given as goal

abbrev pub invariant-loop-t : goal.invariant-loop-t
invariant-loop-t g l = record {
  ran : HasRun l.fn.net.plan (g.D.Driving.driver l.fn.drive) (g.D.Driving.state l.fn.drive) l.t l.net (g.D.Driving.state l.drive);
  count : g.D.Driving.count l.drive ≡ g.D.Driving.count l.fn.drive;
  driver : g.D.Driving.driver l.drive ≡ g.D.Driving.driver l.fn.drive;
  seen_len : length l.seen ≡ length l.fn.net.plan.hosts;
  own : (d : ℕ) → d < length l.fn.net.plan.domains → filter (λ (e : Event). e.domain == d) l.events
      ≡ driven_events l.fn.net.plan d (g.D.Driving.driver l.fn.drive) l.t 0 (start l.fn.net.plan) (g.D.Driving.state l.fn.drive);
  follows : (f : Event) → l.t ≤ f.cycle → MayFollow l.events f;
}
