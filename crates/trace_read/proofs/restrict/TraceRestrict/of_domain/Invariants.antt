use Rattle.std.proofs.Common.{◌≡◌, take}
use Rattle.trace_read.specs.Restrict.{of_domain}
use Rattle.trace_read.proofs.restrict.TraceRestrict.of_domain.Given as goal

abbrev pub invariant-loop-entry : goal.invariant-loop-entry
invariant-loop-entry l = l.kept ≡ of_domain l.plan l.d (take l.entry-index l.entry-items)
