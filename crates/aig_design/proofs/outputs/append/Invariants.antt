use Rattle.std.proofs.Common.{◌≡◌, ◌++◌, take}
use Rattle.aig_design.proofs.outputs.append.Given as goal

abbrev pub invariant-loop-literal : goal.invariant-loop-literal
invariant-loop-literal l = l.all ≡ l.initial.all ++ take l.literal-index l.more
