use Rattle.std.proofs.Common.{◌≡◌, map}
use Rattle.std.specs.List.{range_with_len}
use Rattle.noc_model.specs.Plan.{link_channels}
use Rattle.vc_alloc.proofs.link_counts.Given as goal

abbrev pub invariant-loop-d : goal.invariant-loop-d
invariant-loop-d l = l.counts.items ≡ map (link_channels l.plan) (range_with_len 0 l.d)
