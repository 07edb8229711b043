use Rattle.std.proofs.Common.{ap}
use Rattle.noc_model.specs.Report.{report}
use Rattle.noc_model.specs.Run.{start}
use Rattle.noc_model.specs.Driver.{driven_events}
use Rattle.tile_drive.specs.TraceDriver.{trace_driver, untaken}
use Rattle.surf_cli.specs.Simulate.{report_text}
use Rattle.surf_cli.proofs.laws.reports_do_not_interfere.Goals as goal

pub returns : goal.returns
unfolding report_text
returns c p es fs cycles d agree = ap (λ own. report p d (driven_events p d (trace_driver p own) cycles 0 (start p) (λ j. untaken))) agree
