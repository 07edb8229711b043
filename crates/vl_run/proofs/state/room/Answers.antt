use Rattle.std.proofs.Common.{arith}
use Rattle.vl_run.specs.declared.step.Action.TheVariants.{Number}
use Rattle.vl_run.proofs.Room.{one-inside}
use Rattle.vl_run.proofs.state.room.Goals as goal

pub loop-step-preserved : goal.loop-step-preserved
loop-step-preserved c =
    let old = c.loop-step.invariant in record {
      least = omega (arith, old.least, c.in_ok-written.ensures.least, c.in_ok-most.ensures.least);
      inside = one-inside c.loop-step.most c.in_ok-most.most c.args.steps.now c.loop-step.step-index (record { to = 0; action = Number 0 }) c.loop-step-test.true
          (omega (arith, c.in_ok-written.ensures.least, c.in_ok-most.ensures.least)) (omega (arith, c.in_ok-written.ensures.place, c.in_ok-most.ensures.least)) c.in_ok-most.ensures.places old.inside;
    }
