use Rattle.std.proofs.Common.{◌≡◌, ℕ, ◌<◌, take}
use Rattle.vl_tree.specs.Values.{Name}
use Rattle.vl_run.specs.Top.{places_of}
use Rattle.std.specs.List.{AllByRecursion}
use Rattle.aig_cycle.specs.Short.{Bounds, IsWithin, lengths}
use Rattle.aig_design.specs.Start.{IsBoundedPort, input_ports, AreInputsPut}
use Rattle.aig_design.proofs.start.put_inputs.Given as goal

abbrev pub invariant-loop-i : goal.invariant-loop-i
invariant-loop-i l = (0 < l.variables.next) × ((t : Name → ℕ) → l.places ≡ places_of t l.ports → AreInputsPut t l.initial.variables.next l.variables.next (input_ports (take l.i l.ports)) l.initial.tops.items l.tops.items)
    × ((t : Name → ℕ) → l.places ≡ places_of t l.ports → (b : Bounds) → AllByRecursion (IsBoundedPort t b) l.ports → IsWithin b (lengths l.initial.tops.items) → IsWithin b (lengths l.tops.items))
