use Rattle.std.proofs.Common.{◌<◌, ◌∙◌, sym, length, arith}
use Rattle.std.proofs.lemmas.Bool.Decides.{nat_tests}
use Rattle.vl_tree.proofs.Fronts.{cat_behind}
use Rattle.vl_tree.proofs.plain.+plain.Goals as goal

pub parts-returns : goal.parts-returns
parts-returns t c =
    let some : 0 < length c.args.es.now = grind (arith, nat_tests) in
    let deep : 0 < c.args.depth = grind (arith, nat_tests) in
    c.exprs.ensures ∙ sym (cat_behind c.args.depth c.args.es.now some deep)
