use Rattle.vc_alloc.proofs.Stepping.{AreStepping}
use Rattle.vc_alloc.proofs.VcAlloc.step.Given as goal

abbrev pub invariant-loop-d : goal.invariant-loop-d
invariant-loop-d l = AreStepping l.initial.self l.self l.stages l.initial.next l.next l.plan l.d
