use Rattle.std.proofs.Common.{arith}
use Rattle.flit_pool.proofs.Members.{is-call, last-within, count-few, join-ring, join-value}
use Rattle.flit_pool.proofs.ring.Ring.join.Goals as goal

pub put_next-requires : goal.put_next-requires
put_next-requires c = rw c.link_at-last.ensures (last-within _ _ _ c.self.invariant)

pub overflow_add-self : goal.overflow_add-self
overflow_add-self c = let a = count-few _ _ _ c.self.invariant in omega (arith, a, c.self.invariant.few)

pub invariant_of-self : goal.invariant_of-self
invariant_of-self c = rw (c.put_before.ensures, c.put.ensures, c.put_next.ensures, c.link_at-last.ensures)
    (join-ring (is-call _ _ _ _ c.self.invariant c.self.view_is) c.args.i c.requires.below c.requires.absent)

pub returns : goal.returns
returns c = rw (c.put_before.ensures, c.put.ensures, c.put_next.ensures, c.link_at-last.ensures)
    (join-value (is-call _ _ _ _ c.self.invariant c.self.view_is) c.args.i c.requires.below c.requires.absent)
