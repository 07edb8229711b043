use Rattle.vc_alloc.specs.Commits.{HaveCommitted}
use Rattle.vc_alloc.proofs.VcAlloc.commit_all.Given as goal

abbrev pub invariant-loop-out : goal.invariant-loop-out
invariant-loop-out l = HaveCommitted l.initial.self l.self l.initial.next l.next l.d l.out
