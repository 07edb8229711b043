use Rattle.std.proofs.Common.{◌≡◌, ◌-◌, ◌<◌, length, ap, subst, sym, arith}
use Rattle.label_audit.specs.Whole.{domain_at}
use Rattle.label_audit.proofs.Shapes.{host-within, domain-small}
use Rattle.label_audit.proofs.phase.Shape.inputs.Goals as goal

pub owner-requires : goal.owner-requires
owner-requires c =
    let within = c.loop-i.invariant.within in
    let test = c.loop-i-test.true in
    let same = ap length c.as_slice-ports.ensures in
    host-within c.args.self.now c.requires (c.loop-i.i - 1) (omega (arith, within, test, same))

pub input-requires : goal.input-requires
input-requires c =
    let within = c.loop-i.invariant.within in
    let test = c.loop-i-test.true in
    let same = ap length c.as_slice-ports.ensures in
    let small = domain-small c.args.self.now c.requires (c.loop-i.i - 1) (omega (arith, within, test, same)) in
    subst (λ z. z < 16) (sym c.owner.ensures) small
