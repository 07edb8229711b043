use Rattle.std.proofs.Common.{map, ap}
use Rattle.std.specs.Prelude.{string_bytes}
use Rattle.surf_cli.specs.Commands.{command_of}
use Rattle.surf_cli.proofs.Runnings.{Runs-complete}
use Rattle.surf_cli.proofs.surf.Goals as goal

pub returns-clause-complete : goal.returns-clause-complete
returns-clause-complete g c files sink =
    Runs-complete _ _ _ _ c.answer-end.result c.status.result _ _ _ _ (ap command_of (ap (map string_bytes) c.as_slice.ensures.value)) c.status.ensures c.answer-end.ensures.runs c.print.ensures
    files sink
