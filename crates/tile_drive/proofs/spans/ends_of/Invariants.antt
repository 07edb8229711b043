use Rattle.std.proofs.Common.{◌≡◌, ◌++◌, length}
use Rattle.tile_drive.specs.Scripts.{ends_from}
use Rattle.tile_drive.proofs.spans.ends_of.Given as goal

abbrev pub invariant-loop-rest : goal.invariant-loop-rest
invariant-loop-rest l = l.ends.items ++ ends_from l.most l.rest ≡ ends_from 0 l.spans

abbrev pub decreases-loop-rest : goal.decreases-loop-rest
decreases-loop-rest l = length l.rest
