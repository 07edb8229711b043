use Rattle.std.proofs.Common.{◌-◌, ◌/◌, true, false, length, get_or, set, refl, arith}
use Rattle.aig_model.specs.declared.form.Gate.{Gate}
use Rattle.aig_out.specs.Ran.{at}
use Rattle.aig_trim.proofs.Marked.{gates-low, at-gate, mark-step}
use Rattle.aig_trim.proofs.marks.mark_gates.Goals as goal

pub bounds-marks-gate : goal.bounds-marks-gate
bounds-marks-gate c =
    (gates-low c.args.first c.args.gates.now c.loop-i.i c.loop-i.marks (length c.args.marks.now) (record { first = 0; second = 0 }) c.requires.ordered c.loop-i-test.true c.loop-i.invariant.within c.requires.room c.loop-i.auto.marks).0

pub bounds-marks-gate-then-marks-first : goal.bounds-marks-gate-then-marks-first
bounds-marks-gate-then-marks-first c =
    (gates-low c.args.first c.args.gates.now c.loop-i.i c.loop-i.marks (length c.args.marks.now) (record { first = 0; second = 0 }) c.requires.ordered c.loop-i-test.true c.loop-i.invariant.within c.requires.room c.loop-i.auto.marks).1

pub loop-i-preserved-then-marks-first : goal.loop-i-preserved-then-marks-first
loop-i-preserved-then-marks-first c =
    let i = c.loop-i.i in
    let gs = c.args.gates.now in
    let ms = c.loop-i.marks in
    let le = c.loop-i.invariant.within in
    let some = c.loop-i-test.true in
    let none : Gate = record { first = 0; second = 0 } in
    let g : Gate = get_or gs (i - 1) none in
    let low = gates-low c.args.first gs i ms (length c.args.marks.now) none c.requires.ordered some le c.requires.room c.loop-i.auto.marks in
    record {
      within = omega (arith, le);
      value =
          mark-step (at c.args.marks.now) c.args.first gs i (i - 1) none (omega (arith, some, le)) (omega (arith, some)) ms c.loop-i.invariant.value true c.if-marks-first.true
          (at (set (set ms (g.first / 2) true) (g.second / 2) true)) (at-gate ms g low.0 low.1);
    }

pub loop-i-preserved : goal.loop-i-preserved
loop-i-preserved c =
    let i = c.loop-i.i in
    let gs = c.args.gates.now in
    let le = c.loop-i.invariant.within in
    let some = c.loop-i-test.true in
    record {
      within = omega (arith, le);
      value =
          mark-step (at c.args.marks.now) c.args.first gs i (i - 1) (record { first = 0; second = 0 }) (omega (arith, some, le)) (omega (arith, some)) c.loop-i.marks c.loop-i.invariant.value false c.if-marks-first.false
          (at c.loop-i.marks) (λ x. refl);
    }
