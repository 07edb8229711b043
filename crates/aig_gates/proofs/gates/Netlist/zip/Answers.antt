use Rattle.std.proofs.Common.{◌+◌, sym, subst, arith}
use Rattle.aig_model.proofs.Netlists.{all-wider, grows-none}
use Rattle.aig_gates.specs.Zips.{IsZipped}
use Rattle.aig_gates.proofs.Rippled.{all-at}
use Rattle.aig_gates.proofs.Zipped.{way-wider, zip-none, zip-more}
use Rattle.aig_gates.proofs.gates.Netlist.zip.Goals as goal

pub pair-requires-clause-way : goal.pair-requires-clause-way
pair-requires-clause-way c = way-wider c.args.self.now c.loop-i.self c.loop-i.invariant.grows c.args.way c.requires.way

pub pair-requires-clause-first : goal.pair-requires-clause-first
pair-requires-clause-first c = all-at c.loop-i.self c.args.first.now c.loop-i.i (all-wider c.args.self.now c.loop-i.self c.loop-i.invariant.grows c.args.first.now c.requires.first) c.loop-i-test.true

pub pair-requires-clause-second : goal.pair-requires-clause-second
pair-requires-clause-second c =
    all-at c.loop-i.self c.args.second.now c.loop-i.i (all-wider c.args.self.now c.loop-i.self c.loop-i.invariant.grows c.args.second.now c.requires.second)
    (let test = c.loop-i-test.true in let same = c.requires.same in omega (arith, test, same))

pub loop-i-init : goal.loop-i-init
loop-i-init c = subst (λ items. IsZipped c.args.self.now c.args.self.now c.args.way c.args.first.now c.args.second.now items 0) (sym c.new-bits.ensures) (zip-none c.args.self.now c.args.way c.args.first.now c.args.second.now (grows-none c.args.self.now))

pub loop-i-preserved : goal.loop-i-preserved
loop-i-preserved c =
    let n0 = c.args.self.now in
    let n = c.loop-i.self in
    let m = c.pair.new.self in
    let test = c.loop-i-test.true in
    let same = c.requires.same in
    subst (λ items. IsZipped n0 m c.args.way c.args.first.now c.args.second.now items (c.loop-i.i + 1)) (sym c.in_ok-push.ensures.ok)
    (zip-more n0 n m c.args.way c.args.first.now c.args.second.now c.loop-i.bits c.loop-i.i c.in_ok-bit.bit c.requires.way c.requires.first c.requires.second test (omega (arith, test, same)) c.pair.ensures.grows c.in_ok-bit.ensures.known
    c.in_ok-bit.ensures.value c.loop-i.invariant)
