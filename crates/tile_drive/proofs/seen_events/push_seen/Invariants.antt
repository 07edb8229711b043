use Rattle.std.proofs.Common.{◌≡◌, ◌<◌, ◌++◌, Some, take}
use Rattle.std.specs.Prelude.{slice_get}
use Rattle.noc_model.specs.declared.Event.{Event}
use Rattle.noc_model.specs.declared.Host.{Host}
use Rattle.noc_model.specs.declared.Kind.TheVariants.{Take}
use Rattle.tile_drive.specs.Order.{MayFollow}
use Rattle.tile_drive.specs.SeenEvents.{event_at, events_seen}
use Rattle.tile_drive.proofs.seen_events.push_seen.Given as goal

abbrev pub invariant-loop-j : goal.invariant-loop-j
invariant-loop-j l = record {
  so_far : l.events ≡ l.fn.events ++ events_seen l.t l.seen 0 (take l.j l.plan.hosts);
  here : (h : Host) → slice_get l.plan.hosts l.j ≡ Some h → MayFollow l.events (event_at l.t h (Take 0));
  later : (f : Event) → l.t < f.cycle → MayFollow l.events f;
}
