use Rattle.gen_kit.proofs.Muxed.{mux-shown}
use Rattle.gen_kit.proofs.laws.mux_shown.Goals as goal

pub returns : goal.returns
returns c = mux-shown
