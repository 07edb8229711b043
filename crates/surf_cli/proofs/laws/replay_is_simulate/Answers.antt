use Rattle.surf_cli.proofs.Replaying.{replay-is-simulate, commands-agree}
use Rattle.surf_cli.proofs.laws.replay_is_simulate.Goals as goal

pub returns : goal.returns
returns c = record { text = replay-is-simulate; commands = commands-agree }
