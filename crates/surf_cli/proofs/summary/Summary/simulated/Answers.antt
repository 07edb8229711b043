use Rattle.std.proofs.Common.{ap, ◌∙◌}
use Rattle.stress_gen.specs.Sends.{stress_trace}
use Rattle.surf_cli.proofs.Stressed.{stressed}
use Rattle.surf_cli.proofs.summary.Summary.simulated.Goals as goal

pub returns : goal.returns
returns c =
    let p = c.in_ok-plan.plan in
    stressed p c.in_ok-events.events c.in_ok-trace.trace c.args.number c.args.cycles c.in_ok-plan.ensures
    (c.in_ok-trace.ensures ∙ ap (λ n. stress_trace p n c.args.cycles) c.from.ensures) c.in_ok-events.ensures
