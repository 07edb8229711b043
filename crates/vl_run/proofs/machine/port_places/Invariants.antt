use Rattle.std.proofs.Common.{◌≡◌, take}
use Rattle.vl_run.specs.Emit.{place_in}
use Rattle.vl_run.specs.Top.{places_of}
use Rattle.vl_run.proofs.machine.port_places.Given as goal

abbrev pub invariant-loop-port : goal.invariant-loop-port
invariant-loop-port l = l.places.items ≡ places_of (place_in l.top.declared.now) (take l.port-index l.ports)
