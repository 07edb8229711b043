use Rattle.std.proofs.Common.{◌≡◌, ℕ, ◌+◌, List, [], ◌∷◌, ◌++◌, map, get_or, ◌∙◌, ap, subst}
use Rattle.label_audit.specs.Rises.{row_left, IsRaised}
use Rattle.label_audit.specs.Rows.{row_in, joined_row}
use Rattle.label_audit.proofs.Rows.{row-at}
use Rattle.label_audit.proofs.Rises.{grow-raised}
use Rattle.label_audit.proofs.Shapes.{any-default, grow-rows}
use Rattle.label_audit.proofs.raising.instance.Goals as goal

pub loop-i-preserved : goal.loop-i-preserved
loop-i-preserved c =
    let old = c.args.old.now in
    let i : ℕ = c.loop-i.i in
    let d = c.index-old-i.result in
    let first = ap row_in (c.as_slice.ensures ∙ c.index-old-i.is ∙ any-default old i d [] c.loop-i-test.true) ∙ row-at old i in
    let second = ap row_in c.at.ensures ∙ row-at c.args.new.now i in (
      grow-rows c.loop-i.rows.items c.push.new.self.items c.in_ok-up.up (λ k. joined_row (get_or (map row_in old) k []) (get_or (map row_in c.args.new.now) k [])) i c.in_ok-push.ensures.items c.loop-i.invariant.0
          (c.in_ok-up.ensures.above ∙ ap (λ x. joined_row x (row_in c.at.result.now)) first ∙ ap (joined_row (get_or (map row_in old) i [])) second),
      grow-raised row_left old c.loop-i.rows.items c.push.new.self.items i d c.in_ok-up.up c.loop-i.rose c.in_ok-up.more c.either-rose.result c.loop-i-test.true c.index-old-i.is c.in_ok-push.ensures.items c.either-rose.ensures c.loop-i.invariant.1
          (subst (λ z. IsRaised row_left z c.in_ok-up.up c.in_ok-up.more) c.as_slice.ensures c.in_ok-up.ensures.rises),
    )
