use Rattle.std.proofs.Common.{length, map, sym, ap, ◌∙◌, subst}
use Rattle.router_core.specs.Pulses.{pulse_at}
use Rattle.router_core.specs.Sizes.{HasPorts}
use Rattle.router_core.proofs.Frames.{same-lengths}
use Rattle.cycle_sim.proofs.pulses.keep.Goals as goal

pub copy_from-requires : goal.copy_from-requires
copy_from-requires c =
    same-lengths c.args.plan.now _ _ c.requires.ports c.requires.made.pulses ∙ ap (map length) (sym c.pulses.ensures)

pub returns-clause-ports : goal.returns-clause-ports
returns-clause-ports c =
    subst (λ v. HasPorts c.args.plan.now v) (sym (c.copy_from.ensures ∙ c.pulses.ensures)) c.requires.made.pulses

pub returns-clause-same : goal.returns-clause-same
returns-clause-same c = λ d port there inside. ap (λ v. pulse_at v d port) (c.copy_from.ensures ∙ c.pulses.ensures)
