use Rattle.std.proofs.Common.{◌≡◌, ◌/◌, ◌%◌, map}
use Rattle.std.specs.List.{range_with_len}
use Rattle.noc_model.specs.Plan.{ports}
use Rattle.noc_model.specs.Place.{neighbour}
use Rattle.cycle_sim.proofs.near.Near.new.Given as goal

abbrev pub invariant-loop-k : goal.invariant-loop-k
invariant-loop-k l = l.ends.items ≡ map (λ k. neighbour l.plan (k / ports l.plan) (k % ports l.plan)) (range_with_len 0 l.k)
