use Rattle.std.proofs.Common.{◌+◌, sym, ap, ◌∙◌, arith}
use Rattle.leaf_tie.specs.Names.{credit_base}
use Rattle.gen_router.proofs.Credits.{base_more}
use Rattle.gen_router.proofs.order.credit_base.Goals as goal

pub loop-earlier-preserved : goal.loop-earlier-preserved
loop-earlier-preserved c =
    let p = c.args.plan.now in
    let d = c.loop-earlier.earlier in
    record {
      so_far = ap (λ n. n + c.link_channels-base.result) c.loop-earlier.invariant.so_far ∙ (ap (λ n. credit_base p d + n) c.link_channels-base.ensures.value ∙ sym (base_more p d));
      some = omega arith;
      few = omega arith;
    }
