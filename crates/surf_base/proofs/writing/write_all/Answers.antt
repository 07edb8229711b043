use Rattle.std.proofs.Common.{rules}
use Rattle.surf_base.proofs.OutsideLemmas.{appended-next}
use Rattle.surf_base.proofs.writing.write_all.Goals as goal

pub loop-done-preserved : goal.loop-done-preserved
loop-done-preserved g c = record {
  within = search rules;
  faults = search rules;
  wrote = appended-next _ _ _ c.args.bytes.now c.loop-done.done c.in_ok-done.field-0 c.loop-done.invariant.wrote c.in_ok-done.ensures.ok.2;
}
