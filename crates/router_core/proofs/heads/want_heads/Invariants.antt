use Rattle.vc_alloc.specs.Progress.{KnowsBelow}
use Rattle.router_core.proofs.heads.want_heads.Given as goal

abbrev pub invariant-loop-k : goal.invariant-loop-k
invariant-loop-k l = KnowsBelow l.k l.initial.allocator l.allocator l.plan l.d l.stages
