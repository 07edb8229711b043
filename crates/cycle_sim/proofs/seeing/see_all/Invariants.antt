use Rattle.std.proofs.Common.{◌≡◌, ◌<◌, ◌≤◌, ℕ, length, true, false, Some}
use Rattle.std.specs.Prelude.{slice_get}
use Rattle.noc_model.specs.declared.Host.{Host}
use Rattle.noc_model.specs.Plan.{tiles, hosts}
use Rattle.noc_model.specs.Tile.{Tile}
use Rattle.tile_drive.specs.Seen.{seen_at}
use Rattle.router_core.specs.Attachments.{told_at}
use Rattle.router_core.specs.Parts.{Parts}
use Rattle.router_core.specs.Shown.{Shows}
use Rattle.cycle_sim.specs.Asleep.{is_awake}
use Rattle.cycle_sim.specs.Attached.{with_told, told_by, seen_of, state_after}
use Rattle.cycle_sim.proofs.seeing.see_all.Given as goal

abbrev pub invariant-loop-j : goal.invariant-loop-j
invariant-loop-j g l = record {
  routers : length l.routers.items ≡ tiles l.plan;
  same : (n : ℕ) (r new : Parts) → slice_get l.initial.routers.items n ≡ Some r → slice_get l.routers.items n ≡ Some new → new ≡ with_told r new.told;
  told_len : (n : ℕ) (r new : Parts) → slice_get l.initial.routers.items n ≡ Some r → slice_get l.routers.items n ≡ Some new → length new.told ≡ length r.told;
  told : (i : ℕ) (h : Host) (new : Parts) → i < l.j → slice_get l.plan.hosts i ≡ Some h → slice_get l.routers.items h.tile ≡ Some new
      → is_awake l.awake h.tile ≡ true → told_at new.told h.domain ≡ told_by (g.D.Driving.driver l.initial.drive) l.cycle i (g.D.Driving.state l.initial.drive i);
  away : (n d : ℕ) (r new : Parts) → slice_get l.initial.routers.items n ≡ Some r → slice_get l.routers.items n ≡ Some new → hosts l.plan n d ≡ false
      → told_at new.told d ≡ told_at r.told d;
  count : g.D.Driving.count l.drive ≡ g.D.Driving.count l.initial.drive;
  driver : g.D.Driving.driver l.drive ≡ g.D.Driving.driver l.initial.drive;
  seen_len : length l.seen ≡ length l.initial.seen;
  done : (i : ℕ) (h : Host) (r : Parts) (s : Tile) → i < l.j → slice_get l.plan.hosts i ≡ Some h → slice_get l.initial.routers.items h.tile ≡ Some r
      → Shows r l.plan h.domain s
      → (g.D.Driving.state l.drive i ≡ state_after l.plan (g.D.Driving.driver l.initial.drive) l.cycle i s (g.D.Driving.state l.initial.drive i))
      × (seen_at l.seen i ≡ seen_of l.plan (g.D.Driving.driver l.initial.drive) l.cycle i s (g.D.Driving.state l.initial.drive i));
  waiting : (i : ℕ) → l.j ≤ i → g.D.Driving.state l.drive i ≡ g.D.Driving.state l.initial.drive i;
}
