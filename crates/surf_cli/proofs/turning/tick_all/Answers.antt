use Rattle.std.proofs.Common.{◌<◌, length, arith}
use Rattle.std.proofs.lemmas.Grind.{common_steps}
use Rattle.surf_cli.proofs.Wheeled.{gone-more, still-more, all-ticked}
use Rattle.surf_cli.proofs.turning.tick_all.Goals as goal

pub loop-i-preserved : goal.loop-i-preserved
loop-i-preserved c =
    let there : c.loop-i.i < length c.loop-i.wheels = omega (arith, c.loop-i-test.true, c.loop-i.invariant.count) in
    record {
      count = grind (arith, common_steps);
      gone = gone-more c.args.wheels.now c.loop-i.wheels c.loop-i.i c.index-wheels-i.result c.tick.new.self there c.loop-i.invariant.gone c.loop-i.invariant.still c.tick.ensures;
      still = still-more c.args.wheels.now c.loop-i.wheels c.loop-i.i c.tick.new.self c.loop-i.invariant.still;
    }

pub returns : goal.returns
returns c = all-ticked c.args.wheels.now c.loop-i.wheels c.loop-i.i c.loop-i.invariant.count (omega (arith, c.loop-i-test.false, c.loop-i.invariant.count)) c.loop-i.invariant.gone
