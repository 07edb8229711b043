use Rattle.std.proofs.Common.{arith}
use Rattle.std.proofs.lemmas.Grind.{common_steps}
use Rattle.std.proofs.lemmas.List.FromFn.{map-range_with_len_more}
use Rattle.wave_sched.specs.Starts.{port_slots}
use Rattle.wave_sched.proofs.starts.starts_of.Goals as goal

pub loop-port-preserved : goal.loop-port-preserved
loop-port-preserved c =
    let more =
    map-range_with_len_more (port_slots c.args.plan.now c.args.tile) 0 c.loop-port.port c.loop-port.port (omega arith) in
    grind (arith, common_steps, more)
