use Rattle.std.proofs.Common.{◌≤◌, take}
use Rattle.std.specs.List.{AllByRecursion}
use Rattle.vl_run.specs.Start.{IsInside}
use Rattle.vl_run.proofs.state.room.Given as goal

abbrev pub invariant-loop-step : goal.invariant-loop-step
invariant-loop-step l = record {
  least : l.least ≤ l.most;
  inside : AllByRecursion (IsInside l.most) (take l.step-index l.steps);
}
