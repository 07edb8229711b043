use Rattle.std.proofs.Common.{length, subst}
use Rattle.std.specs.Prelude.{codes}
use Rattle.surf_base.specs.Block.{Writes}
use Rattle.surf_base.proofs.Blocks.{Writes-then, BreaksOff-more}
use Rattle.aig_out.specs.Forms.{form_of, head_line}
use Rattle.aig_out.proofs.Lines.{head-is}
use Rattle.aig_out.proofs.text.put_head.Goals as goal

pub returns-in-Ok : goal.returns-in-Ok
returns-in-Ok g c =
    let a = c.args.aig.now in
    Writes-then c.put_line.result _ _ _ (codes "aag ") (head_line (form_of a)) c.in-Ok.ensures
    (subst (Writes c.put_line.result _ _)
    (head-is a.inputs c.len-latches.result c.len-outputs.result c.len-gates.result (length a.latches) (length a.outputs) (length a.gates) c.len-latches.ensures c.len-outputs.ensures c.len-gates.ensures) c.put_line.ensures)

pub returns-in-Err : goal.returns-in-Err
returns-in-Err g c = BreaksOff-more _ _ (codes "aag ") (head_line (form_of c.args.aig.now)) c.in-Err.ensures
