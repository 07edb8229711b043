use Rattle.std.proofs.Common.{◌+◌, get_or, set, ◌&&◌, ◌∙◌, ap, arith}
use Rattle.std.proofs.lemmas.List.{take_all}
use Rattle.aig_model.specs.declared.form.Gate.{Gate}
use Rattle.aig_model.specs.Form.{literal, with_gates}
use Rattle.aig_out.specs.Ran.{at}
use Rattle.aig_out.proofs.Ran.{settle-more}
use Rattle.aig_out.proofs.run.settle.Goals as goal

abbrev none : Gate
none = record { first = 0; second = 0 }

pub loop-i-preserved : goal.loop-i-preserved
loop-i-preserved c v h =
    let i = c.loop-i.i in
    let lt = c.loop-i-test.true in
    let room = c.requires.room in
    let long = c.loop-i.auto.values in
    settle-more v c.args.first c.args.gates.now c.loop-i.values _ i none c.requires.ordered lt (omega (arith, lt, room, long))
    (ap (λ b. set c.loop-i.values (c.args.first + i) (b && c.value-in-loop-i.result)) c.value.ensures ∙ ap (λ b. set c.loop-i.values (c.args.first + i) (literal (at c.loop-i.values) (get_or c.args.gates.now i none).first && b)) c.value-in-loop-i.ensures)
    (c.loop-i.invariant v h)

pub returns-clause-values : goal.returns-clause-values
returns-clause-values c v h x below =
    let i = c.loop-i.i in
    let past = c.loop-i-test.false in
    c.loop-i.invariant v h x (omega (arith, below, past)) ∙ ap (λ gs. with_gates v c.args.first gs x) (take_all i c.args.gates.now past)
