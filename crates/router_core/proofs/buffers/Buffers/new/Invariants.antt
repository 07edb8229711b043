use Rattle.std.proofs.Common.{◌≡◌, map}
use Rattle.std.specs.List.{range_with_len}
use Rattle.router_core.specs.Buffers.{empty_lists}
use Rattle.router_core.proofs.buffers.Buffers.new.Given as goal

abbrev pub invariant-loop-d : goal.invariant-loop-d
invariant-loop-d l = l.pools.items ≡ map (empty_lists l.plan) (range_with_len 0 l.d)
