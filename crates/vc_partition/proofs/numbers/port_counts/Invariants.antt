use Rattle.std.proofs.Common.{◌≡◌, ◌≤◌, ◌*◌, map}
use Rattle.std.specs.List.{range_with_len}
use Rattle.noc_model.specs.Plan.{ports}
use Rattle.vc_partition.specs.Lanes.{total}
use Rattle.vc_partition.proofs.numbers.port_counts.Given as goal

abbrev pub invariant-loop : goal.invariant-loop
invariant-loop l =
    (l.counts.items ≡ map (λ d. ports l.plan) (range_with_len 0 l.counter)) × (total l.counts.items ≤ 7 * l.counter)
