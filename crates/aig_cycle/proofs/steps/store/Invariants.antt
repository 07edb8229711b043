use Rattle.std.proofs.Common.{◌≡◌, []}
use Rattle.aig_cycle.proofs.Running.{IsStoring}
use Rattle.aig_cycle.proofs.steps.store.Given as goal

abbrev pub invariant-loop-store : goal.invariant-loop-store
invariant-loop-store l = IsStoring l.initial.netlist l.netlist l.stores l.nets l.initial.memories.items l.memories.items l.store-index × (l.stores ≡ [] → l.netlist ≡ l.initial.netlist)
