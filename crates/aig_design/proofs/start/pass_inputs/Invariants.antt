use Rattle.std.proofs.Common.{◌≡◌, ℕ, ◌+◌, false, length, take}
use Rattle.vl_tree.specs.Values.{Name}
use Rattle.aig_model.specs.FormOf.{all_bits}
use Rattle.aig_design.proofs.start.pass_inputs.Given as goal

abbrev pub invariant-loop-port : goal.invariant-loop-port
invariant-loop-port l = (f : Name → ℕ) → l.variables.next ≡ l.initial.variables.next + length (all_bits false f (take l.port-index l.ports))
