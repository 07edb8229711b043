use Rattle.right_design.proofs.Driven.{replay-is-simulation, replay-stands}
use Rattle.right_design.proofs.laws.replay_is_simulation.Goals as goal

pub returns : goal.returns
returns c = record { events = replay-is-simulation; states = replay-stands }
