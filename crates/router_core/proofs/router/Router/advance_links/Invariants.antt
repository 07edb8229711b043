use Rattle.router_core.specs.Advance.{AdvancesBelow}
use Rattle.router_core.proofs.router.Router.advance_links.Given as goal

abbrev pub invariant-loop-d : goal.invariant-loop-d
invariant-loop-d l = AdvancesBelow l.d l.plan l.initial.self l.self l.links
