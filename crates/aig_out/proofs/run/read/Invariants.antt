use Rattle.std.proofs.Common.{◌≡◌, map, take}
use Rattle.aig_model.specs.Form.{literal}
use Rattle.aig_out.specs.Ran.{at}
use Rattle.aig_out.proofs.run.read.Given as goal

abbrev pub invariant-loop-i : goal.invariant-loop-i
invariant-loop-i l = take l.i l.bits ≡ map (literal (at l.values)) (take l.i l.literals)
