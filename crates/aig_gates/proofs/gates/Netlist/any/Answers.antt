use Rattle.aig_model.proofs.Netlists.{all-wider, grows-none}
use Rattle.aig_gates.proofs.Rippled.{all-at}
use Rattle.aig_gates.proofs.Zipped.{any-none, any-more, any-is}
use Rattle.aig_gates.proofs.gates.Netlist.any.Goals as goal

pub or-requires-clause-first : goal.or-requires-clause-first
or-requires-clause-first c = c.loop-bit.invariant.known

pub or-requires-clause-second : goal.or-requires-clause-second
or-requires-clause-second c = all-at c.loop-bit.self c.args.bits.now c.loop-bit.bit-index (all-wider c.args.self.now c.loop-bit.self c.loop-bit.invariant.grows c.args.bits.now c.requires) c.loop-bit-test.true

pub loop-bit-init : goal.loop-bit-init
loop-bit-init c = any-none c.args.self.now c.args.bits.now c.known.ensures.front (grows-none c.args.self.now)

pub loop-bit-preserved : goal.loop-bit-preserved
loop-bit-preserved c =
    any-more c.args.self.now c.loop-bit.self c.or.new.self c.args.bits.now c.loop-bit.some c.in_ok-some.some c.loop-bit.bit-index c.requires c.loop-bit-test.true c.or.ensures.grows c.in_ok-some.ensures.known c.in_ok-some.ensures.value
    c.loop-bit.invariant

pub returns-clause-value : goal.returns-clause-value
returns-clause-value c = any-is c.args.self.now c.loop-bit.self c.args.bits.now c.loop-bit.some c.loop-bit.bit-index c.loop-bit-test.false c.loop-bit.invariant
