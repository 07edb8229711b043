use Rattle.tile_drive.proofs.ScriptLemmas.{adds_entry}
use Rattle.tile_drive.proofs.scripts.add_entry.Goals as goal

pub returns : goal.returns
returns c =
    adds_entry c.args.scripts.now c.attach-j.result c.index-scripts-j.result c.add_to_script.new.script c.args.entry.now c.attach-j.ensures c.if-j-scripts.false
    c.in_ok-add_to_script.ensures.due c.in_ok-add_to_script.ensures.spans
