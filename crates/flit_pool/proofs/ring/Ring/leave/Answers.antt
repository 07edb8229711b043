use Rattle.std.proofs.Common.{arith, length-set}
use Rattle.flit_pool.proofs.Members.{is-call, present-below, leave-next, leave-before, leave-ring, leave-value}
use Rattle.flit_pool.proofs.ring.Ring.leave.Goals as goal

pub link_at-link-requires : goal.link_at-link-requires
link_at-link-requires c =
    let a = present-below (is-call _ _ _ _ c.self.invariant c.self.view_is) c.args.i c.requires in
    omega (arith, a, c.self.invariant.whole)

pub put_next-requires : goal.put_next-requires
put_next-requires c =
    rw c.link_at-link.ensures (let a = leave-before (is-call _ _ _ _ c.self.invariant c.self.view_is) c.args.i c.requires in omega (arith, a, c.self.invariant.whole))

pub put_before-requires : goal.put_before-requires
put_before-requires c =
    rw (c.put_next.ensures, c.link_at-link.ensures, length-set) (let a = leave-next (is-call _ _ _ _ c.self.invariant c.self.view_is) c.args.i c.requires in omega (arith, a, c.self.invariant.whole))

pub put-requires : goal.put-requires
put-requires c =
    rw (c.put_before.ensures, length-set, c.put_next.ensures, length-set) (let a = present-below (is-call _ _ _ _ c.self.invariant c.self.view_is) c.args.i c.requires in omega (arith, a, c.self.invariant.whole))

pub invariant_of-self : goal.invariant_of-self
invariant_of-self c = rw (c.put.ensures, c.put_before.ensures, c.put_next.ensures, c.link_at-link.ensures)
    (leave-ring (is-call _ _ _ _ c.self.invariant c.self.view_is) c.args.i c.requires)

pub returns : goal.returns
returns c = rw (c.put.ensures, c.put_before.ensures, c.put_next.ensures, c.link_at-link.ensures)
    (leave-value (is-call _ _ _ _ c.self.invariant c.self.view_is) c.args.i c.requires)
