use Rattle.vl_tree.specs.Read.{read_design}
use Rattle.vl_rules.specs.Answer.{design_of}
use Rattle.surf_cli.proofs.Replays.{reports-replayed}
use Rattle.surf_cli.proofs.reports.Reports.replayed.Goals as goal

pub returns : goal.returns
returns c = reports-replayed c.args.plan (read_design (design_of c.args.sound)) c.in_ok-events.events c.args.trace.now c.args.cycles c.in_ok-events.ensures
