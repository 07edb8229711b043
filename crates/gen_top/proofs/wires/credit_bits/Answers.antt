use Rattle.std.proofs.Common.{◌+◌, ◌∙◌, sym, ap, arith}
use Rattle.gen_top.proofs.Widths.{credits_below, credits_more}
use Rattle.gen_top.proofs.wires.credit_bits.Goals as goal

pub loop-d-preserved : goal.loop-d-preserved
loop-d-preserved c = record {
  sum = ap (λ n. n + c.link_channels-bits.result) c.loop-d.invariant.sum
      ∙ (ap (λ n. credits_below c.args.plan.now c.loop-d.d + n) c.link_channels-bits.ensures.value
      ∙ sym (credits_more c.args.plan.now c.loop-d.d (omega arith)));
  some = omega arith;
  few = omega arith;
}
