use Rattle.std.proofs.Common.{arith, ◌∙◌, ap}
use Rattle.vc_partition.specs.Lanes.{cut}
use Rattle.vc_partition.proofs.Cuts.{same-room, copy-value}
use Rattle.vc_partition.proofs.lanes.Lanes.copy_from.Goals as goal

pub copy_from_slice-requires : goal.copy_from_slice-requires
copy_from_slice-requires g c =
    let a = same-room c.self.invariant c.other.invariant c.self.view_is c.other.view_is c.requires in
    omega (arith, a, c.deref.ensures.len, c.self.inside.items.ok, c.other.inside.items.ok)

pub returns : goal.returns
returns g c =
    ap (λ xs. cut xs c.self.inside.counts.items) (c.copy_from_slice.ensures.items ∙ c.deref.ensures.value)
    ∙ copy-value c.self.invariant c.other.invariant c.self.view_is c.other.view_is c.requires
