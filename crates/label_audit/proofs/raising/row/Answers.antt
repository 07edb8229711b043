use Rattle.std.proofs.Common.{◌≡◌, ℕ, false, get_or, ◌∙◌, ap, sym}
use Rattle.std.proofs.Math.ListN.{get_or-map}
use Rattle.label_model.specs.Labels.{join}
use Rattle.label_audit.specs.declared.bit.Bit.TheVariants.{Known}
use Rattle.label_audit.specs.Bits.{label_in}
use Rattle.label_audit.specs.Rises.{bit_left}
use Rattle.label_audit.specs.Rows.{row_in, bit_in}
use Rattle.label_audit.proofs.Rises.{grow-raised}
use Rattle.label_audit.proofs.Shapes.{any-default, grow-row}
use Rattle.label_audit.proofs.raising.row.Goals as goal

pub loop-i-preserved : goal.loop-i-preserved
loop-i-preserved c =
    let old = c.args.old.now in
    let new = c.args.new.now in
    let i : ℕ = c.loop-i.i in
    let d = get_or old i (Known false) in
    let up = c.raised-up.result.0 in
    let first = sym (get_or-map label_in old i (Known false)) in (
      grow-row c.loop-i.row c.push.new.self up (λ k. join (bit_in (row_in old) k) (bit_in (row_in new) k)) i c.in_ok-push.ensures.ok c.loop-i.invariant.0
          (c.raised-up.ensures.above ∙ ap (λ x. join x (label_in c.bit.result)) first ∙ ap (join (bit_in (row_in old) i)) c.bit.ensures),
      grow-raised bit_left old c.loop-i.row c.push.new.self i d up c.loop-i.rose c.raised-up.result.1 c.either-rose.result c.loop-i-test.true (any-default old i (Known false) d c.loop-i-test.true) c.in_ok-push.ensures.ok c.either-rose.ensures c.loop-i.invariant.1
          c.raised-up.ensures.rises,
    )
