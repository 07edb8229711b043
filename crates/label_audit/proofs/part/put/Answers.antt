use Rattle.std.proofs.lemmas.List.{map-set}
use Rattle.label_audit.specs.Rows.{row_in}
use Rattle.label_audit.proofs.part.put.Goals as goal

pub returns-then-place-rows : goal.returns-then-place-rows
returns-then-place-rows c = map-set row_in c.args.rows.now c.args.place c.args.row
