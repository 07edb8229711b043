use Rattle.std.proofs.Common.{◌≡◌, ◌+◌, ◌≤◌, ◌++◌, length}
use Rattle.std.specs.Str.Lines.{lines}
use Rattle.trace_read.specs.Entries.{entries}
use Rattle.trace_read.specs.Accepted.{fault_from}
use Rattle.trace_read.proofs.reading.read_trace.Given as goal

abbrev pub invariant-loop-rest : goal.invariant-loop-rest
invariant-loop-rest l = record {
  entries : l.trace ++ entries l.plan (lines l.rest) ≡ entries l.plan (lines l.bytes);
  fault : fault_from l.plan (l.line + 1) (lines l.rest) ≡ fault_from l.plan 1 (lines l.bytes);
  count : l.line + length l.rest ≤ length l.bytes;
}

abbrev pub decreases-loop-rest : goal.decreases-loop-rest
decreases-loop-rest l = length l.rest
