use Rattle.std.proofs.Common.{◌+◌, sym, subst, ap, ◌∙◌}
use Rattle.std.specs.Prelude.{◌==◌}
use Rattle.aig_model.specs.Form.{flipped, literal}
use Rattle.aig_cycle.proofs.Latched.{IsTaken, taken-none, taken-more}
use Rattle.aig_cycle.proofs.latches.latch_literals.Goals as goal

pub loop-i-init : goal.loop-i-init
loop-i-init c = subst (λ xs. IsTaken c.args.bits.now c.args.reset xs 0) (sym c.new-all.ensures) (taken-none c.args.bits.now c.args.reset)

pub loop-i-preserved : goal.loop-i-preserved
loop-i-preserved c =
    subst (λ xs. IsTaken c.args.bits.now c.args.reset xs (c.loop-i.i + 1)) (sym c.in_ok-push.ensures.ok)
    (taken-more c.args.bits.now c.args.reset c.loop-i.all c.loop-i.i c.bit.result c.turned-literal.result c.bit.ensures c.turned-literal.ensures.known
    (λ v. c.turned-literal.ensures.value v ∙ ap (λ d. flipped (d == 1) (literal v c.bit.result)) c.digit.ensures) c.loop-i.invariant)
