use Rattle.std.proofs.Common.{◌+◌, sym, subst}
use Rattle.aig_gates.proofs.Zipped.{IsPadded, pad-none, pad-more}
use Rattle.aig_gates.proofs.words.padded.Goals as goal

pub loop-i-init : goal.loop-i-init
loop-i-init c = subst (λ items. IsPadded c.args.bits.now items 0) (sym c.new-all.ensures) (pad-none c.args.bits.now)

pub loop-i-preserved : goal.loop-i-preserved
loop-i-preserved c =
    subst (λ items. IsPadded c.args.bits.now items (c.loop-i.i + 1)) (sym c.in_ok-push.ensures.ok)
    (pad-more c.args.bits.now c.loop-i.all c.loop-i.i c.bit.result c.bit.ensures c.loop-i.invariant)
