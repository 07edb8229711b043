use Rattle.router_core.specs.Heads.{GivesBelow}
use Rattle.router_core.proofs.heads.give_channels.Given as goal

abbrev pub invariant-loop-out : goal.invariant-loop-out
invariant-loop-out l = GivesBelow l.out l.plan l.d l.initial.allocator l.allocator l.initial.stages l.stages
