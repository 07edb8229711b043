use Rattle.std.proofs.Common.{arith, ◌∙◌, ap, take, drop}
use Rattle.vc_partition.proofs.Cuts.{lane-there, starts-there, is-lane, lane-within, lane-value}
use Rattle.vc_partition.proofs.lanes.Lanes.lane.Goals as goal

pub index-start-requires : goal.index-start-requires
index-start-requires g c =
    let a = starts-there _ _ _ _ _ c.self.invariant c.self.view_is c.requires in
    omega (arith, a, c.self.inside.starts.ok)

pub index-count-requires : goal.index-count-requires
index-count-requires g c =
    let a = lane-there _ _ _ _ c.self.view_is c.requires in
    omega (arith, a, c.self.inside.counts.ok)

pub part_of-requires : goal.part_of-requires
part_of-requires g c =
    let a =
    lane-within (is-lane _ _ _ _ _ _ _ c.self.invariant c.self.view_is c.requires c.index-start.ensures c.index-count.ensures) in
    omega (arith, a, c.deref.ensures.len, c.self.inside.items.ok)

pub returns : goal.returns
returns g c =
    c.part_of.ensures
    ∙ ap (λ xs. take c.index-count.result.now (drop c.index-start.result.now xs)) c.deref.ensures.value
    ∙ lane-value (is-lane _ _ _ _ _ _ _ c.self.invariant c.self.view_is c.requires c.index-start.ensures c.index-count.ensures)
