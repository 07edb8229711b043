use Rattle.std.proofs.Common.{◌≡◌, ℕ, length, ◌∙◌, ap, sym, map}
use Rattle.std.specs.Prelude.{slice_get}
use Rattle.std.proofs.lemmas.Option.{slice_get-get_or}
use Rattle.label_audit.specs.Rows.{row_in}
use Rattle.label_audit.specs.Whole.{first_at}
use Rattle.label_audit.proofs.Shapes.{grow-phase}
use Rattle.label_audit.proofs.phase.Shape.first.Goals as goal

pub loop-i-preserved : goal.loop-i-preserved
loop-i-preserved c =
    let at = slice_get-get_or c.args.self.now.parts.now c.loop-i.i c.index-self-i.result c.loop-i-test.true in
    grow-phase c.loop-i.phase.items c.push.new.self.items c.new.result (λ i. first_at (slice_get c.args.self.now.parts.now i)) c.loop-i.i c.in_ok-push.ensures.items c.loop-i.invariant
    (ap (map row_in) c.new.ensures ∙ c.in_ok-first.ensures ∙ ap first_at (sym at))
