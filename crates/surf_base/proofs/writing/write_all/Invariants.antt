use Rattle.std.proofs.Common.{length, take, ◌-◌, ◌≡◌, ◌≤◌}
use Rattle.surf_base.specs.Outside.{appended}
use Rattle.surf_base.proofs.writing.write_all.Given as goal

abbrev pub invariant-loop-done : goal.invariant-loop-done
invariant-loop-done g l = record {
  within : l.done ≤ length l.bytes;
  faults : g.O.Sink.faults l.initial.sink ≤ g.O.Sink.faults l.sink;
  wrote : g.O.Sink.written l.sink ≡ appended (g.O.Sink.written l.initial.sink) (take l.done l.bytes);
}

abbrev pub decreases-loop-done : goal.decreases-loop-done
decreases-loop-done g l = length l.bytes - l.done
