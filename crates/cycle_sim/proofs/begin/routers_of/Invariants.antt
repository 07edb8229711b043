use Rattle.std.proofs.Common.{◌≡◌, ℕ, length, Some}
use Rattle.std.specs.Prelude.{slice_get}
use Rattle.router_core.specs.Parts.{Parts}
use Rattle.cycle_sim.specs.Net.{IsFresh}
use Rattle.cycle_sim.proofs.begin.routers_of.Given as goal

abbrev pub invariant-loop-n : goal.invariant-loop-n
invariant-loop-n l = record {
  count : length l.routers.items ≡ l.n;
  fresh : (m : ℕ) (r : Parts) → slice_get l.routers.items m ≡ Some r → IsFresh l.plan m r;
}
