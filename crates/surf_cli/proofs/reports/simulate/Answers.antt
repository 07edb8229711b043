use Rattle.std.proofs.Common.{◌∙◌}
use Rattle.surf_cli.specs.Simulate.{AreAlone}
use Rattle.std.proofs.lemmas.Result.{IfOk-weaker}
use Rattle.surf_cli.proofs.Simulated.{run-alone}
use Rattle.surf_cli.proofs.reports.simulate.Goals as goal

pub returns : goal.returns
returns c =
    IfOk-weaker c.run.result _ (λ events. AreAlone c.args.plan.now events c.args.trace.now c.args.cycles)
    (λ events each. run-alone c.args.plan.now c.in_ok-net.net.plan _ _ events c.args.trace.now c.args.cycles (c.in_ok-net.ensures.plan ∙ c.in_ok-copy.ensures) c.in_ok-drive.ensures.driver
    c.in_ok-drive.ensures.state each) c.run.ensures.events
