use Rattle.slot_switch.proofs.Outputs.{output-link, takes-local, takes-own, takes-other}
use Rattle.slot_switch.proofs.step.takes.Goals as goal

pub returns-then-out-eq0 : goal.returns-then-out-eq0
returns-then-out-eq0 c = λ n t s i stands shown output.
    takes-local c.args.plan.now c.args.d n t c.args.out c.args.to s i c.args.credits.now c.args.room.now c.if-out-eq0.true shown

pub returns-then-leaving-d : goal.returns-then-leaving-d
returns-then-leaving-d c = λ n t s i stands shown output.
    let p = c.args.plan.now in
    let link = output-link p n c.args.out c.if-out-eq0.false output in
    takes-own p c.args.d n t c.args.out c.args.to c.place.result c.at.result.now c.leaving.result s i c.args.credits.now c.args.room.now c.if-out-eq0.false
    c.requires.out c.requires.to shown (c.leaving.ensures.value p n t link.0 stands link.1) c.if-leaving-d.true c.place.ensures.value c.at.ensures

pub returns-else-leaving-d : goal.returns-else-leaving-d
returns-else-leaving-d c = λ n t s i stands shown output.
    let p = c.args.plan.now in
    let link = output-link p n c.args.out c.if-out-eq0.false output in
    takes-other p c.args.d n t c.args.out c.args.to c.leaving.result s i c.if-out-eq0.false (c.leaving.ensures.value p n t link.0 stands link.1) c.if-leaving-d.false
