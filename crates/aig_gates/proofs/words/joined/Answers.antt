use Rattle.aig_gates.proofs.Zipped.{IsPadded, joined-value, joined-count, joined-known}
use Rattle.aig_gates.proofs.words.joined.Goals as goal

pub returns-clause-known : goal.returns-clause-known
returns-clause-known c k some a b = joined-known k c.in_ok-all.all c.args.front.now c.loop-literal.all c.loop-literal.literal-index c.loop-literal-test.false c.loop-literal.invariant (c.in_ok-all.ensures.known k some a) b

pub returns-clause-count : goal.returns-clause-count
returns-clause-count c = joined-count c.in_ok-all.all c.args.front.now c.loop-literal.all c.args.count c.loop-literal.literal-index c.in_ok-all.ensures.count c.loop-literal-test.false c.loop-literal.invariant

pub returns-clause-value : goal.returns-clause-value
returns-clause-value c v e =
    let pad : IsPadded c.args.back.now c.in_ok-all.all c.args.count = record { known = c.in_ok-all.ensures.known; count = c.in_ok-all.ensures.count; value = c.in_ok-all.ensures.value } in
    joined-value v e c.args.back.now c.in_ok-all.all c.args.front.now c.loop-literal.all c.args.count c.loop-literal.literal-index pad c.loop-literal-test.false c.loop-literal.invariant
