use Rattle.std.proofs.Common.{arith, ◌∙◌, sym, ap, length}
use Rattle.std.proofs.lemmas.List.{with_items_is}
use Rattle.vc_partition.specs.Lanes.{cut}
use Rattle.vc_partition.proofs.Cuts.{lane-there, starts-there, is-lane, lane-within, filled-items, filled-length, lane-fill}
use Rattle.vc_partition.proofs.lanes.Lanes.fill.Goals as goal

pub index-start-requires : goal.index-start-requires
index-start-requires g c =
    let a = starts-there _ _ _ _ _ c.self.invariant c.self.view_is c.requires in
    omega (arith, a, c.self.inside.starts.ok)

pub index-count-requires : goal.index-count-requires
index-count-requires g c =
    let a = lane-there _ _ _ _ c.self.view_is c.requires in
    omega (arith, a, c.self.inside.counts.ok)

pub fill_part-requires : goal.fill_part-requires
fill_part-requires g c =
    let a =
    lane-within (is-lane _ _ _ _ _ _ _ c.self.invariant c.self.view_is c.requires c.index-start.ensures c.index-count.ensures) in
    omega (arith, a, c.deref_mut.ensures.len, c.self.inside.items.ok)

pub returns : goal.returns
returns g c =
    let at = is-lane _ _ _ _ _ _ _ c.self.invariant c.self.view_is c.requires c.index-start.ensures c.index-count.ensures in
    let is = filled-items c.args.value c.fill_part.new.items at c.deref_mut.ensures.value c.fill_part.ensures in
    let room = ap length is ∙ filled-length c.args.value at ∙ sym c.self.inside.items.ok.0 in
    let items = with_items_is c.self.inside.items c.fill_part.new.items room ∙ is in
    ap (λ xs. cut xs c.self.inside.counts.items) items ∙ lane-fill c.args.value at
