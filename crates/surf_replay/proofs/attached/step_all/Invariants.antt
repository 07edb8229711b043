use Rattle.std.proofs.Common.{◌≡◌, ℕ, ◌<◌, ◌≤◌, length}
use Rattle.std.specs.Prelude.{Some, slice_get}
use Rattle.vl_model.specs.Whole.{Nets}
use Rattle.noc_model.specs.declared.Host.{Host}
use Rattle.tile_drive.specs.Seen.{seen_at}
use Rattle.vl_run.specs.Running.{running}
use Rattle.surf_replay.specs.Cycle.{IsIn, seen_text, notified}
use Rattle.surf_replay.proofs.attached.step_all.Given as goal

abbrev pub invariant-loop-j : goal.invariant-loop-j
invariant-loop-j g l = record {
  count : g.D.Driving.count l.drive ≡ g.D.Driving.count l.fn.drive;
  driver : g.D.Driving.driver l.drive ≡ g.D.Driving.driver l.fn.drive;
  seen_len : length l.seen ≡ length l.fn.seen;
  done : (nets : Nets) (k : ℕ) (h : Host) → k < l.j → IsIn (running l.machine) l.plan nets
      → slice_get l.plan.hosts k ≡ Some h
      → (g.D.Driving.state l.drive k ≡ notified (g.D.Driving.driver l.fn.drive) l.cycle k (g.D.Driving.state l.fn.drive k) nets h)
      × (seen_at l.seen k ≡ seen_text (g.D.Driving.driver l.fn.drive) l.cycle k (g.D.Driving.state l.fn.drive k) nets h);
  left : (k : ℕ) → l.j ≤ k → g.D.Driving.state l.drive k ≡ g.D.Driving.state l.fn.drive k;
}
