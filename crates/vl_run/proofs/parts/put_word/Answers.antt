use Rattle.std.proofs.Common.{arith}
use Rattle.vl_run.proofs.WordPut.{set-with, none-with}
use Rattle.vl_run.proofs.parts.put_word.Goals as goal

pub returns-then-instance-parts : goal.returns-then-instance-parts
returns-then-instance-parts c =
    set-with c.args.parts.now c.args.instance c.args.row c.args.index c.args.value c.index-parts-instance.result c.put.new.self (omega arith) c.put.ensures

pub returns-else-instance-parts : goal.returns-else-instance-parts
returns-else-instance-parts c = none-with c.args.parts.now c.args.instance c.args.row c.args.index c.args.value (omega arith)
