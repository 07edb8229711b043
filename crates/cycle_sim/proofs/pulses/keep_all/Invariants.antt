use Rattle.std.proofs.Common.{◌≡◌, ◌<◌, ℕ, true, false, length, Some}
use Rattle.std.specs.Prelude.{slice_get}
use Rattle.noc_model.specs.Plan.{tiles, ports}
use Rattle.router_core.specs.Parts.{Parts}
use Rattle.router_core.specs.Pulses.{pulse_at}
use Rattle.router_core.specs.Sizes.{HasPorts}
use Rattle.cycle_sim.specs.Asleep.{is_awake}
use Rattle.cycle_sim.specs.Links.{pulses_of}
use Rattle.cycle_sim.proofs.pulses.keep_all.Given as goal

abbrev pub invariant-loop-n : goal.invariant-loop-n
invariant-loop-n l = record {
  kept : length l.kept.items ≡ tiles l.plan;
  each : (m : ℕ) → m < tiles l.plan → HasPorts l.plan (pulses_of l.kept.items m);
  same : (m d port : ℕ) (r : Parts) → m < l.n → slice_get l.routers m ≡ Some r → is_awake l.awake m ≡ true → d < length l.plan.domains → port < ports l.plan
      → pulse_at (pulses_of l.kept.items m) d port ≡ pulse_at r.pulses d port;
  asleep : (m : ℕ) → is_awake l.awake m ≡ false → pulses_of l.kept.items m ≡ pulses_of l.initial.kept.items m;
}
