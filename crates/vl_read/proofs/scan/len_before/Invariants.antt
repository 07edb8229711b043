use Rattle.std.proofs.Common.{◌≡◌, ◌+◌, drop, eqb}
use Rattle.std.specs.Prelude.{not}
use Rattle.std.specs.List.{prefix_len}
use Rattle.vl_read.proofs.scan.len_before.Given as goal

abbrev pub invariant-loop-i : goal.invariant-loop-i
invariant-loop-i l =
    l.i + prefix_len (λ c. not (eqb c l.end)) (drop l.i l.bytes) ≡ prefix_len (λ c. not (eqb c l.end)) l.bytes
