use Rattle.std.proofs.Common.{◌+◌, [], take, drop, get_or, subst}
use Rattle.std.proofs.lemmas.Result.{err_from_is_err_and}
use Rattle.aig_model.specs.Text.{line, output_lines}
use Rattle.surf_base.specs.Block.{Puts, BreaksOff, Writes}
use Rattle.surf_base.proofs.Blocks.{Puts-then, BreaksOff-then, Writes-err}
use Rattle.aig_out.proofs.Lines.{outputs-more, outputs-rest}
use Rattle.aig_out.proofs.text.put_outputs.Goals as goal

pub returns-in_err-put_line : goal.returns-in_err-put_line
returns-in_err-put_line g c =
    let xs = c.args.outputs.now in
    let i = c.loop-output.output-index in
    let p = err_from_is_err_and c.from_residual.result c.from_residual.ensures.1 in
    subst (Writes c.from_residual.result _ _) (outputs-rest xs (i + 1))
    (Writes-err c.from_residual.result p.0 _ _ (output_lines (take (i + 1) xs)) (output_lines (drop (i + 1) xs)) p.1
    (subst (BreaksOff _ _) (outputs-more xs i 0 c.loop-output-test.true) (BreaksOff-then _ _ _ (output_lines (take i xs)) (line (get_or xs i 0) []) c.loop-output.invariant c.in_err-put_line.ensures)))

pub loop-output-preserved : goal.loop-output-preserved
loop-output-preserved g c =
    let xs = c.args.outputs.now in
    let i = c.loop-output.output-index in
    subst (Puts _ _) (outputs-more xs i 0 c.loop-output-test.true) (Puts-then _ _ _ (output_lines (take i xs)) (line (get_or xs i 0) []) c.loop-output.invariant c.in_ok-put_line.ensures)
