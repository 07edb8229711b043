use Rattle.std.proofs.Common.{◌≡◌, ◌++◌, length}
use Rattle.tile_drive.specs.TraceDriver.{due_words}
use Rattle.tile_drive.proofs.scripts.add_words.Given as goal

abbrev pub invariant-loop-rest : goal.invariant-loop-rest
invariant-loop-rest l =
    l.due.items ++ due_words l.cycle l.address l.rest ≡ l.initial.due.items ++ due_words l.cycle l.address l.words

abbrev pub decreases-loop-rest : goal.decreases-loop-rest
decreases-loop-rest l = length l.rest
