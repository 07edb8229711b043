use Rattle.std.proofs.Common.{◌≡◌, ℕ, ◌<◌, Bool}
use Rattle.aig_out.specs.Ran.{at}
use Rattle.aig_out.proofs.Ran.{AreValues}
use Rattle.aig_out.proofs.run.settle.Given as goal

abbrev pub invariant-loop-i : goal.invariant-loop-i
invariant-loop-i l = (v : ℕ → Bool) → ((x : ℕ) → x < l.first → at l.initial.values x ≡ v x) → AreValues v l.first l.gates l.values l.i
