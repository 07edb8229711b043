use Rattle.vc_alloc.specs.Progress.{KnowsBelow}
use Rattle.vc_alloc.proofs.VcAlloc.want_all.Given as goal

abbrev pub invariant-loop-i : goal.invariant-loop-i
invariant-loop-i l = KnowsBelow l.i l.initial.self l.self l.plan l.d l.stages
