use Rattle.std.proofs.Common.{◌≡◌, suc, ◌+◌, ◌-◌, ◌^◌, sym, ap, ◌∙◌, arith}
use Rattle.vl_tree.specs.Read.{read}
use Rattle.gen_kit.specs.Mux.{merged}
use Rattle.leaf_parts.specs.Ways.{ways_from}
use Rattle.leaf_parts.proofs.Tabled.{ways_more}
use Rattle.leaf_parts.proofs.table.+ways_from.Goals as goal

pub returns : goal.returns
returns t c =
    let p = c.args.plan.now in
    let n = c.args.tile in
    let name = c.args.name.now in
    let low = c.args.low in
    let i = c.args.i in
    let k = c.args.count - 1 in
    let whole : suc k ≡ c.args.count = omega arith in
    c.in_ok-both.ensures
    ∙ (ap (λ x. merged name i x (read c.in_ok-zeros.zeros)) (c.in_ok-ones.ensures ∙ ap (λ h. ways_from p n name (low + h) (i + 1) k) c.pow-half.ensures)
    ∙ (ap (λ x. merged name i (ways_from p n name (low + 2 ^ i) (i + 1) k) x) c.in_ok-zeros.ensures
    ∙ (sym (ways_more p n name low i k) ∙ ap (ways_from p n name low i) whole)))
