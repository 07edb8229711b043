use Rattle.std.proofs.Common.{◌<◌, ◌+◌, length, take, refl, sym, subst, arith}
use Rattle.std.proofs.lemmas.Option.{slice_get_read}
use Rattle.vl_rules.specs.Library.{AreDeclared}
use Rattle.vl_rules.proofs.Shelved.{declared-more}
use Rattle.vl_rules.proofs.library.declared.Goals as goal

pub loop-leaf-preserved : goal.loop-leaf-preserved
loop-leaf-preserved c =
    let within : c.loop-leaf.leaf-index < length c.args.leaves.now = omega arith in
    subst (AreDeclared (take (c.loop-leaf.leaf-index + 1) c.args.leaves.now)) (sym c.in_ok-push.ensures.items)
    (declared-more c.args.leaves.now c.loop-leaf.tables.items c.loop-leaf.leaf-index c.leaf-item.result c.in_ok-declarations.field-0 c.loop-leaf.invariant
    (slice_get_read c.args.leaves.now (length c.args.leaves.now) c.loop-leaf.leaf-index c.leaf-item.result refl within c.leaf-item.is) c.in_ok-declarations.ensures)
