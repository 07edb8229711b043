use Rattle.std.proofs.Common.{◌≡◌, map}
use Rattle.std.specs.List.{range_with_len}
use Rattle.wave_sched.specs.Starts.{port_slots}
use Rattle.wave_sched.proofs.starts.starts_of.Given as goal

abbrev pub invariant-loop-port : goal.invariant-loop-port
invariant-loop-port l = l.starts.items ≡ map (port_slots l.plan l.tile) (range_with_len 0 l.port)
