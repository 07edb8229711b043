use Rattle.std.proofs.Common.{◌≡◌, ◌≢◌, ℕ}
use Rattle.vc_partition.specs.Lanes.{lane}
use Rattle.route_stage.specs.Routed.{stage_at, HasInputs}
use Rattle.router_core.specs.Heads.{headed_to}
use Rattle.router_core.proofs.heads.route_heads.Given as goal

abbrev pub invariant-loop-k : goal.invariant-loop-k
invariant-loop-k l = record {
  own : (i : ℕ) → stage_at l.stages l.d i ≡ headed_to l.k l.plan l.tile l.buffers l.initial.stages l.d i;
  others : (e : ℕ) → e ≢ l.d → lane l.stages e ≡ lane l.initial.stages e;
  inputs : HasInputs l.plan l.stages;
}
