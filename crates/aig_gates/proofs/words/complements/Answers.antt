use Rattle.std.proofs.Common.{◌≡◌, ℕ, ◌+◌, ◌-◌, ◌^◌, ap, sym, subst, length, take, List, Bool, arith}
use Rattle.aig_model.specs.Form.{word}
use Rattle.std.proofs.lemmas.List.{take_all}
use Rattle.aig_gates.proofs.Zipped.{IsOther, other-none, other-more}
use Rattle.aig_gates.proofs.words.complements.Goals as goal

pub loop-literal-init : goal.loop-literal-init
loop-literal-init c = subst (λ items. IsOther c.args.bits.now items 0) (sym c.new-all.ensures) (other-none c.args.bits.now)

pub loop-literal-preserved : goal.loop-literal-preserved
loop-literal-preserved c =
    subst (λ items. IsOther c.args.bits.now items (c.loop-literal.literal-index + 1)) (sym c.in_ok-push.ensures.ok)
    (other-more c.args.bits.now c.loop-literal.all c.loop-literal.literal-index c.complement.result c.loop-literal-test.true c.complement.ensures.known c.complement.ensures.value c.loop-literal.invariant)

whole : (v : ℕ → Bool) (bits made : List ℕ) (i n : ℕ) → i ≡ n → length bits ≡ n → word v made + word v (take i bits) ≡ 2 ^ i - 1 → word v made ≡ 2 ^ n - 1 - word v bits
whole v bits made i n e l h =
    let all = ap (word v) (take_all i bits (omega (arith, e, l))) in
    let power = ap (λ k. 2 ^ k) e in
    omega (arith, h, all, power)

pub returns-clause-value : goal.returns-clause-value
returns-clause-value c v =
    let past = c.loop-literal-test.false in
    let within = c.loop-literal.auto.literal-index-end in
    whole v c.args.bits.now c.loop-literal.all c.loop-literal.literal-index (length c.args.bits.now) (omega (arith, past, within)) (omega arith) (c.loop-literal.invariant.value v)
