use Rattle.surf_cli.proofs.Compiled.{compiled-is-simulated, compile-then-replay}
use Rattle.surf_cli.proofs.laws.compiled_is_simulated.Goals as goal

pub returns : goal.returns
returns c = record { contents = compiled-is-simulated; words = compile-then-replay }
