use Rattle.surf_cli.proofs.Simulated.{reports-alone}
use Rattle.surf_cli.proofs.reports.Reports.simulated.Goals as goal

pub returns : goal.returns
returns c = reports-alone c.args.plan c.in_ok-events.events c.args.trace.now c.args.cycles c.in_ok-events.ensures
