use Rattle.std.proofs.Common.{arith}
use Rattle.std.proofs.lemmas.Grind.{common_steps}
use Rattle.tile_drive.proofs.ScriptLemmas.{due_push, spans_push}
use Rattle.tile_drive.proofs.scripts.empty_scripts.Goals as goal

pub loop-i-preserved : goal.loop-i-preserved
loop-i-preserved c = record {
  count = grind (arith, common_steps);
  due = rw c.in_ok-push.ensures.items (due_push _ _ c.empty_script.ensures.due c.loop-i.invariant.due);
  spans = rw c.in_ok-push.ensures.items (spans_push _ _ c.empty_script.ensures.spans c.loop-i.invariant.spans);
}
