use Rattle.std.proofs.Common.{ℕ, ◌∙◌}
use Rattle.std.specs.Prelude.{Bool, slice_index}
use Rattle.aig_model.specs.declared.form.Gate.{Gate}
use Rattle.aig_out.specs.Ran.{at}
use Rattle.aig_trim.proofs.Marked.{kept-push, kept-pass}
use Rattle.aig_trim.proofs.trim.kept_gates.Goals as goal
use Rattle.aig_trim.proofs.trim.kept_gates.Goals.{then-marks-first+in_ok-push, else-marks-first}

pub loop-i-preserved : goal.loop-i-preserved
loop-i-preserved c =
    let i = c.loop-i.i in
    let m : ℕ → Bool = at c.args.marks.now in
    let p : ℕ → ℕ = slice_index c.args.numbers.now in
    let gs = c.args.gates.now in
    let none : Gate = record { first = 0; second = 0 } in
    elim c.if-marks-first.branch [
      | then-marks-first+in_ok-push w ↦
          w.all-is ∙ w.in_ok-push.ensures.ok
          ∙ kept-push m p c.args.first gs i none c.loop-i-test.true w.if-marks-first.true c.loop-i.all c.loop-i.invariant w.moved_literal.result w.moved_literal-then-marks-first.result w.moved_literal.ensures w.moved_literal-then-marks-first.ensures
      | else-marks-first w ↦ w.all-is ∙ kept-pass m p c.args.first gs i none c.loop-i-test.true w.if-marks-first.false c.loop-i.all c.loop-i.invariant
    ]
