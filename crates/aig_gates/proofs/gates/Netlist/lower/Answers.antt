use Rattle.std.proofs.Common.{arith}
use Rattle.aig_model.proofs.Netlists.{all-wider, grows-none}
use Rattle.aig_gates.proofs.Rippled.{all-at}
use Rattle.aig_gates.proofs.Zipped.{less-none, less-more}
use Rattle.aig_gates.proofs.gates.Netlist.lower.Goals as goal

pub below-requires-clause-first : goal.below-requires-clause-first
below-requires-clause-first c = all-at c.loop-i.self c.args.first.now c.loop-i.i (all-wider c.args.self.now c.loop-i.self c.loop-i.invariant.grows c.args.first.now c.requires.first) c.loop-i-test.true

pub below-requires-clause-second : goal.below-requires-clause-second
below-requires-clause-second c =
    all-at c.loop-i.self c.args.second.now c.loop-i.i (all-wider c.args.self.now c.loop-i.self c.loop-i.invariant.grows c.args.second.now c.requires.second)
    (let test = c.loop-i-test.true in let same = c.requires.same in omega (arith, test, same))

pub below-requires-clause-before : goal.below-requires-clause-before
below-requires-clause-before c = c.loop-i.invariant.known

pub loop-i-init : goal.loop-i-init
loop-i-init c = less-none c.args.self.now c.args.first.now c.args.second.now c.known.ensures.front (grows-none c.args.self.now)

pub loop-i-preserved : goal.loop-i-preserved
loop-i-preserved c =
    let test = c.loop-i-test.true in
    let same = c.requires.same in
    less-more c.args.self.now c.loop-i.self c.below.new.self c.args.first.now c.args.second.now c.loop-i.less c.in_ok-less.less c.loop-i.i c.requires.first c.requires.second test (omega (arith, test, same)) c.below.ensures.grows
    c.in_ok-less.ensures.known c.in_ok-less.ensures.value c.loop-i.invariant
