use Rattle.std.proofs.Common.{◌≡◌, ◌≤◌, take}
use Rattle.std.specs.Prelude.{flat_map}
use Rattle.noc_model.specs.Report.{event_line}
use Rattle.surf_base.specs.Block.{Puts, stream}
use Rattle.domain_report.specs.Counts.{counts_of, total}
use Rattle.domain_report.proofs.Lines.{own}
use Rattle.domain_report.proofs.events.put_events.Given as goal

abbrev pub invariant-loop-event : goal.invariant-loop-event
invariant-loop-event g l = record {
  lines :
      Puts (stream (g.O.Sink.written l.initial.out) l.initial.block (g.O.Sink.faults l.initial.out))
      (stream (g.O.Sink.written l.out) l.block (g.O.Sink.faults l.out)) (flat_map event_line (own l.d (take l.event-index l.events)));
  counts : l.counts ≡ counts_of (own l.d (take l.event-index l.events));
  total : total l.counts ≤ l.event-index;
}
