use Rattle.std.proofs.Common.{◌≡◌, ◌≤◌, take}
use Rattle.domain_report.specs.Counts.{counts_of, total}
use Rattle.domain_report.proofs.Lines.{own}
use Rattle.stress_gen.proofs.summary.counts_of.Given as goal

abbrev pub invariant-loop-event : goal.invariant-loop-event
invariant-loop-event l = record {
  counts : l.counts ≡ counts_of (own l.d (take l.event-index l.events));
  total : total l.counts ≤ l.event-index;
}
