use Rattle.std.proofs.Common.{◌≡◌, ◌*◌, ◌≤◌}
use Rattle.gen_top.proofs.Widths.{credits_below}
use Rattle.gen_top.proofs.wires.credit_bits.Given as goal

abbrev pub invariant-loop-d : goal.invariant-loop-d
invariant-loop-d l = record {
  sum : l.bits ≡ credits_below l.plan l.d;
  some : l.d ≤ l.bits;
  few : l.bits ≤ 8 * l.d;
}
