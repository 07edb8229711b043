use Rattle.std.proofs.Common.{◌≡◌, drop}
use Rattle.vl_run.specs.Program.{stored_in}
use Rattle.vl_run.proofs.state.store.Given as goal

abbrev pub invariant-loop-store : goal.invariant-loop-store
invariant-loop-store l = stored_in l.nets (drop l.store-index l.stores) l.memories ≡ stored_in l.nets l.stores l.initial.memories
