use Rattle.std.proofs.Common.{◌+◌, ◌%◌, ◌^◌, ◌∙◌, ap, sym, subst, arith}
use Rattle.std.proofs.lemmas.Nat.Bits.{shr_and_one}
use Rattle.std.proofs.Math.Nat.{mod-eq_of_lt}
use Rattle.aig_gates.proofs.Zipped.{IsBits, bits-none, bits-more}
use Rattle.aig_gates.proofs.words.number_word.Goals as goal

pub loop-i-init : goal.loop-i-init
loop-i-init c = subst (λ items. IsBits c.args.number items 0) (sym c.new-bits.ensures) (bits-none c.args.number)

pub loop-i-preserved : goal.loop-i-preserved
loop-i-preserved c =
    subst (λ items. IsBits c.args.number items (c.loop-i.i + 1)) (sym c.in_ok-push.ensures.ok)
    (bits-more c.args.number c.loop-i.bits c.loop-i.i _ (shr_and_one c.args.number c.loop-i.i) c.loop-i.invariant)

pub returns-clause-value : goal.returns-clause-value
returns-clause-value c v e =
    let past = c.loop-i-test.false in
    let within = c.loop-i.auto.i-end in
    c.loop-i.invariant.value v e ∙ ap (λ i. c.args.number % 2 ^ i) (omega (arith, past, within)) ∙ mod-eq_of_lt c.width-i-end.ensures.fits
