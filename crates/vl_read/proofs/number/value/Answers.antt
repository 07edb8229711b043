use Rattle.std.proofs.Common.{◌*◌, ◌+◌, arith, ap, sym, ◌∙◌}
use Rattle.vl_read.proofs.Numbers.{fitting, value_ends, value_stops, value_on}
use Rattle.vl_read.proofs.number.value.Goals as goal

pub returns-in_err-number : goal.returns-in_err-number
returns-in_err-number c =
    rw c.from_residual.ensures (value_stops c.args.base c.loop-d.number c.loop-d.d-index c.args.digits.now c.requires c.loop-d-test.true c.loop-d.invariant.0
    (ap (λ d. fitting (c.loop-d.number * c.args.base + d)) (sym c.digit.ensures) ∙ sym c.next.ensures ∙ c.in_err-number.was))

pub loop-d-preserved : goal.loop-d-preserved
loop-d-preserved c =
    value_on c.args.base c.loop-d.number c.loop-d.d-index c.in_ok-number.number c.args.digits.now c.loop-d-test.true c.loop-d.invariant.0
    (ap (λ d. fitting (c.loop-d.number * c.args.base + d)) (sym c.digit.ensures) ∙ sym c.next.ensures ∙ c.in_ok-number.was)

pub returns : goal.returns
returns c =
    value_ends c.args.base c.loop-d.number c.loop-d.d-index c.args.digits.now c.loop-d.invariant.0 c.loop-d.invariant.1 (omega arith)
