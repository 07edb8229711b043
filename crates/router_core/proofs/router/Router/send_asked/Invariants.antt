use Rattle.router_core.specs.Crossing.{SendsBelow}
use Rattle.router_core.proofs.router.Router.send_asked.Given as goal

abbrev pub invariant-loop-out : goal.invariant-loop-out
invariant-loop-out l = SendsBelow l.out l.plan l.d l.initial.self l.self l.initial.links l.links
