use Rattle.std.proofs.Common.{◌≡◌, ℕ, take}
use Rattle.std.specs.Prelude.{◌||◌}
use Rattle.std.specs.List.{list_any}
use Rattle.aig_out.specs.Ran.{at}
use Rattle.aig_trim.specs.Marks.{is_of}
use Rattle.aig_trim.proofs.marks.mark.Given as goal

abbrev pub invariant-loop-literal : goal.invariant-loop-literal
invariant-loop-literal l = (x : ℕ) → at l.marks x ≡ (at l.initial.marks x || list_any (is_of x) (take l.literal-index l.literals))
