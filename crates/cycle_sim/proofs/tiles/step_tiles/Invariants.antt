use Rattle.std.proofs.Common.{◌≡◌, ◌<◌, ◌≤◌, ℕ, true, false, length, Some}
use Rattle.std.specs.Prelude.{slice_get}
use Rattle.noc_model.specs.Plan.{tiles, ports}
use Rattle.router_core.specs.declared.router.RouterOut.{RouterOut}
use Rattle.router_core.specs.Parts.{Parts}
use Rattle.cycle_sim.specs.Asleep.{is_awake, HasSlept}
use Rattle.cycle_sim.specs.TileCycle.{HasStepped}
use Rattle.cycle_sim.proofs.tiles.step_tiles.Given as goal

abbrev pub invariant-loop-n : goal.invariant-loop-n
invariant-loop-n l = record {
  routers : length l.routers.items ≡ tiles l.plan;
  outs : length l.outs.items ≡ tiles l.plan;
  stepped : (k : ℕ) (r new : Parts) (out : RouterOut) → k < l.n → slice_get l.initial.routers.items k ≡ Some r → slice_get l.routers.items k ≡ Some new
      → slice_get l.outs.items k ≡ Some out → is_awake l.awake k ≡ true → HasStepped l.plan k l.cycle l.rows l.pulses r new out.links.items;
  slept : (k : ℕ) (r new : Parts) → k < l.n → slice_get l.initial.routers.items k ≡ Some r → slice_get l.routers.items k ≡ Some new
      → is_awake l.awake k ≡ false → HasSlept l.plan k l.cycle r new;
  links : (k : ℕ) (out : RouterOut) → slice_get l.outs.items k ≡ Some out → length out.links.items ≡ ports l.plan;
  left : (k : ℕ) → l.n ≤ k → slice_get l.routers.items k ≡ slice_get l.initial.routers.items k;
}
