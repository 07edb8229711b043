use Rattle.gen_kit.proofs.Muxed.{table-shown}
use Rattle.gen_kit.proofs.laws.table_shown.Goals as goal

pub returns : goal.returns
returns c = table-shown
