use Rattle.std.proofs.Common.{◌≡◌, ◌<◌, ◌≤◌, ℕ, length}
use Rattle.std.specs.Prelude.{filter, ◌==◌}
use Rattle.vl_tree.specs.Read.{read_design}
use Rattle.vl_rules.specs.Answer.{design_of}
use Rattle.noc_model.specs.declared.Event.{Event}
use Rattle.tile_drive.specs.Order.{MayFollow}
use Rattle.gen_kit.specs.Replayed.{at_start, replayed}
use Rattle.vl_run.specs.Running.{running}
use Rattle.surf_replay.specs.Going.{IsGoing}
use Rattle.surf_replay.proofs.Cycles.{gone}
use Rattle.surf_replay.proofs.run.replay.Given as goal

abbrev pub invariant-loop-t : goal.invariant-loop-t
invariant-loop-t g l = record {
  design : (running l.machine).design ≡ read_design (design_of l.fn.sound);
  going : IsGoing (running l.machine) l.plan (g.D.Driving.state l.drive)
      (gone l.plan (read_design (design_of l.fn.sound)) (g.D.Driving.driver l.fn.drive) l.t 0 (at_start (read_design (design_of l.fn.sound)) (g.D.Driving.state l.fn.drive)));
  count : g.D.Driving.count l.drive ≡ g.D.Driving.count l.fn.drive;
  driver : g.D.Driving.driver l.drive ≡ g.D.Driving.driver l.fn.drive;
  seen_len : length l.seen ≡ length l.plan.hosts;
  own : (k : ℕ) → k < length l.plan.domains → filter (λ (e : Event). e.domain == k) l.events
      ≡ replayed l.plan (read_design (design_of l.fn.sound)) (g.D.Driving.driver l.fn.drive) k l.t 0 (at_start (read_design (design_of l.fn.sound)) (g.D.Driving.state l.fn.drive));
  follows : (f : Event) → l.t ≤ f.cycle → MayFollow l.events f;
}
