use Rattle.surf_cli.proofs.Simulated.{report-alone}
use Rattle.surf_cli.proofs.reports.OneReport.simulated.Goals as goal

pub returns : goal.returns
returns c =
    report-alone c.args.plan c.in_ok-events.events c.args.trace.now c.args.cycles c.args.domain
    (c.in_ok-events.ensures c.args.domain c.requires.there)
