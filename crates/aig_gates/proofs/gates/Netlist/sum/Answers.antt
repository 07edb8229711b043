use Rattle.std.proofs.Common.{◌+◌, sym, subst, arith}
use Rattle.aig_model.proofs.Netlists.{wider, all-wider, grows-twice}
use Rattle.aig_gates.specs.Ripple.{IsRipple}
use Rattle.aig_gates.proofs.Rippled.{ripple-more}
use Rattle.aig_gates.proofs.gates.Netlist.sum.Goals as goal

pub loop-i-preserved : goal.loop-i-preserved
loop-i-preserved c =
    let n0 = c.args.self.now in
    let n = c.loop-i.self in
    let m = c.place.new.self in
    let so = c.loop-i.invariant.grows in
    let test = c.loop-i-test.true in
    let same = c.requires.same in
    record {
      grows = grows-twice n0 n m so c.place.ensures.grows;
      ripple =
          subst (λ items. IsRipple m c.args.first.now c.args.second.now c.args.carry items c.in_ok-next.next.carry (c.loop-i.i + 1)) (sym c.in_ok-push.ensures.ok)
          (ripple-more n m c.args.first.now c.args.second.now c.args.carry c.loop-i.bits c.loop-i.over c.loop-i.i c.in_ok-next.next.bit c.in_ok-next.next.carry c.place.ensures.grows (all-wider n0 n so c.args.first.now c.requires.first)
          (all-wider n0 n so c.args.second.now c.requires.second) (wider n0 n so c.args.carry c.requires.carry) test (omega (arith, test, same)) c.in_ok-next.ensures.bit c.in_ok-next.ensures.over c.in_ok-next.ensures.value c.loop-i.invariant.ripple);
    }
