use Rattle.std.proofs.Common.{◌-◌, get_or, arith}
use Rattle.std.proofs.lemmas.Option.{slice_get-get_or}
use Rattle.label_audit.proofs.Shapes.{part-knows}
use Rattle.label_audit.proofs.phase.Shape.tops.Goals as goal

pub show-requires : goal.show-requires
show-requires c =
    let within = c.loop-i.invariant.within in
    let test = c.loop-i-test.true in
    part-knows c.args.self.now c.requires (c.loop-i.i - 1) (get_or c.args.self.now.parts.now (c.loop-i.i - 1) c.index-self-i.result) (slice_get-get_or c.args.self.now.parts.now (c.loop-i.i - 1) c.index-self-i.result (omega (arith, within, test)))
