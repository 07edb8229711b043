use Rattle.std.proofs.Common.{◌≡◌, List, ◌++◌, take, drop}
use Rattle.vl_run.specs.State.{Part}
use Rattle.vl_run.specs.Shown.{AllRefreshed}
use Rattle.vl_run.proofs.parts.refresh_all.Given as goal

abbrev pub invariant-loop-part : goal.invariant-loop-part
invariant-loop-part l = (done : List Part) × (l.parts ≡ done ++ drop l.part-index l.initial.parts) × AllRefreshed (take l.part-index l.initial.parts) done
