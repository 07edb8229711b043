use Rattle.std.proofs.Common.{◌≡◌, ◌+◌, ◌*◌, ◌%◌, ◌^◌, sym, subst, ap, ◌∙◌, arith}
use Rattle.std.proofs.Math.Nat.{mod-eq_of_lt}
use Rattle.aig_model.specs.FormOf.{flipped_bits, AreBits}
use Rattle.aig_cycle.proofs.Latched.{IsLatched, latched-none, latched-more}
use Rattle.aig_cycle.proofs.latches.latch_word.Goals as goal

pub loop-i-init : goal.loop-i-init
loop-i-init c = subst (λ xs. IsLatched c.args.first c.args.reset xs 0) (sym c.new-bits.ensures) (latched-none c.args.first c.args.reset)

pub loop-i-preserved : goal.loop-i-preserved
loop-i-preserved c =
    subst (λ xs. IsLatched c.args.first c.args.reset xs (c.loop-i.i + 1)) (sym c.in_ok-push.ensures.ok)
    (latched-more c.args.first c.args.reset c.loop-i.bits c.loop-i.i _ (ap (λ b. 2 * (c.args.first + c.loop-i.i) + b) c.digit.ensures) c.loop-i.invariant)

pub returns-clause-value : goal.returns-clause-value
returns-clause-value c v x small a =
    let past = c.loop-i-test.false in
    let within = c.loop-i.auto.i-end in
    let all : c.args.high + 1 ≡ c.loop-i.i = omega (arith, past, within) in
    c.loop-i.invariant.value v x (subst (λ k. AreBits (flipped_bits x c.args.reset 0 k) (λ j. v (c.args.first + j)) 0) all a) ∙ ap (λ k. x % 2 ^ k) (sym all) ∙ mod-eq_of_lt small
