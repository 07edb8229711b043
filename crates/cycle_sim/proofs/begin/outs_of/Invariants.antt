use Rattle.std.proofs.Common.{◌≡◌, ℕ, length, Some}
use Rattle.std.specs.Prelude.{slice_get}
use Rattle.noc_model.specs.Plan.{ports}
use Rattle.router_core.specs.declared.router.RouterOut.{RouterOut}
use Rattle.cycle_sim.proofs.begin.outs_of.Given as goal

abbrev pub invariant-loop : goal.invariant-loop
invariant-loop l = record {
  count : length l.outs.items ≡ l.counter;
  links : (m : ℕ) (out : RouterOut) → slice_get l.outs.items m ≡ Some out → length out.links.items ≡ ports l.plan;
}
