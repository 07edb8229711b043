use Rattle.std.proofs.Common.{◌≡◌, ◌<◌, ◌≤◌, ℕ, true}
use Rattle.flit_pool.specs.Chains.{times}
use Rattle.flit_pool.specs.Ring.{has, members}
use Rattle.flit_pool.proofs.Members.{some-times}
use Rattle.flit_pool.proofs.Rings.{at-most-once, member-below}
use Rattle.flit_pool.proofs.ring.Ring.known.Goals as goal

pub returns-clause-below : goal.returns-clause-below
returns-clause-below c =
    let x = c.self.inside in
    let here : (i : ℕ) → has (record { items = members x.links.items x.size x.count; size = x.size }) i ≡ true → i < x.size =
    λ i there. member-below x.links.items x.size x.count c.self.invariant i (some-times i (members x.links.items x.size x.count) there) in
    rw (← c.self.view_is) here

pub returns-clause-once : goal.returns-clause-once
returns-clause-once c =
    let x = c.self.inside in
    let here : (i : ℕ) → times i (members x.links.items x.size x.count) ≤ 1 =
    at-most-once x.links.items x.size x.count c.self.invariant in
    rw (← c.self.view_is) here
