use Rattle.std.proofs.Common.{◌≡◌, length, sym, subst}
use Rattle.vl_run.specs.State.{Part, part_edged}
use Rattle.vl_run.specs.declared.packed.Lists.{Lists}
use Rattle.vl_run.specs.Packed.{Packs, FitIn}
use Rattle.vl_run.proofs.Packing.{fits-long, length-edged}
use Rattle.vl_run.proofs.parts.Instance.edge.Goals as goal

pub invariant_of-self : goal.invariant_of-self
invariant_of-self c =
    let x : Part = c.self.inside.part in
    let l : Lists = c.self.inside.lists in
    let long : length (part_edged c.args.tops.now x).kept.nets ≡ length x.kept.nets = length-edged x.code c.args.tops.now x.kept in (
      subst (λ (z : Part). Packs z.code l) (sym c.edge.ensures) c.self.invariant.0,
      subst (λ (z : Part). FitIn (length z.kept.nets) l) (sym c.edge.ensures) (fits-long (length x.kept.nets) (length (part_edged c.args.tops.now x).kept.nets) l long c.self.invariant.1),
    )
