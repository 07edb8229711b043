use Rattle.std.proofs.Common.{◌≡◌, ℕ, ◌+◌, ◌-◌, ◌<◌, false, length}
use Rattle.std.specs.Prelude.{◌==◌, nat_le, if◌then◌else◌}
use Rattle.aig_out.specs.Ran.{at}
use Rattle.aig_out.proofs.run.put_given.Given as goal

abbrev pub invariant-loop-i : goal.invariant-loop-i
invariant-loop-i l = (x : ℕ) → x < l.i + 1 → at l.values x ≡ (if x == 0 then false else at l.inputs (x - 1))

abbrev pub invariant-loop-j : goal.invariant-loop-j
invariant-loop-j l = (x : ℕ) → x < length l.inputs + l.j + 1 → at l.values x ≡ (if x == 0 then false else if nat_le x (length l.inputs) then at l.inputs (x - 1) else at l.state (x - length l.inputs - 1))
