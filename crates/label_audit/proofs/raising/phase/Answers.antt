use Rattle.std.proofs.Common.{◌≡◌, ℕ, ◌+◌, List, [], ◌∷◌, ◌++◌, map, get_or, ◌∙◌, ap, subst}
use Rattle.label_audit.specs.Rises.{rows_left, IsRaised}
use Rattle.label_audit.specs.Rows.{row_in, joined_rows}
use Rattle.label_audit.specs.Whole.{phase_in}
use Rattle.label_audit.proofs.Instances.{rows-at}
use Rattle.label_audit.proofs.Rises.{grow-raised}
use Rattle.label_audit.proofs.Shapes.{any-default, grow-phase}
use Rattle.label_audit.proofs.raising.phase.Goals as goal

pub loop-i-preserved : goal.loop-i-preserved
loop-i-preserved c =
    let old = c.args.old.now in
    let i : ℕ = c.loop-i.i in
    let d = c.index-old-i.result in
    let first = ap (map row_in) (c.as_slice.ensures ∙ c.index-old-i.is ∙ any-default old i d [] c.loop-i-test.true) ∙ rows-at old i in
    let second = ap (map row_in) c.of_instance.ensures ∙ rows-at c.args.new.now i in (
      grow-phase c.loop-i.phase.items c.push.new.self.items c.in_ok-up.up (λ k. joined_rows (get_or (phase_in old) k []) (get_or (phase_in c.args.new.now) k [])) i c.in_ok-push.ensures.items c.loop-i.invariant.0
          (c.in_ok-up.ensures.above ∙ ap (λ x. joined_rows x (map row_in c.of_instance.result.now)) first ∙ ap (joined_rows (get_or (phase_in old) i [])) second),
      grow-raised rows_left old c.loop-i.phase.items c.push.new.self.items i d c.in_ok-up.up c.loop-i.rose c.in_ok-up.more c.either-rose.result c.loop-i-test.true c.index-old-i.is c.in_ok-push.ensures.items c.either-rose.ensures c.loop-i.invariant.1
          (subst (λ z. IsRaised rows_left z c.in_ok-up.up c.in_ok-up.more) c.as_slice.ensures c.in_ok-up.ensures.rises),
    )
