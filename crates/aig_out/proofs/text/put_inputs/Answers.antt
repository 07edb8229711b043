use Rattle.std.proofs.Common.{◌+◌, ◌-◌, ◌*◌, [], subst, arith}
use Rattle.std.proofs.lemmas.Result.{err_from_is_err_and}
use Rattle.aig_model.specs.Text.{line, input_lines}
use Rattle.surf_base.specs.Block.{Puts, BreaksOff, Writes}
use Rattle.surf_base.proofs.Blocks.{Puts-then, BreaksOff-then, Writes-err}
use Rattle.aig_out.proofs.Lines.{inputs-more, inputs-rest}
use Rattle.aig_out.proofs.text.put_inputs.Goals as goal

pub returns-in_err-put_line : goal.returns-in_err-put_line
returns-in_err-put_line g c =
    let i = c.loop-i.i in
    let p = err_from_is_err_and c.from_residual.result c.from_residual.ensures.1 in
    subst (Writes c.from_residual.result _ _) (inputs-rest (i + 1) c.args.count (let test = c.loop-i-test.true in omega (arith, test)))
    (Writes-err c.from_residual.result p.0 _ _ (input_lines 1 (i + 1)) (input_lines (1 + (i + 1)) (c.args.count - (i + 1))) p.1
    (subst (BreaksOff _ _) (inputs-more i) (BreaksOff-then _ _ _ (input_lines 1 i) (line (2 * (1 + i)) []) c.loop-i.invariant c.in_err-put_line.ensures)))

pub loop-i-preserved : goal.loop-i-preserved
loop-i-preserved g c =
    let i = c.loop-i.i in
    subst (Puts _ _) (inputs-more i) (Puts-then _ _ _ (input_lines 1 i) (line (2 * (1 + i)) []) c.loop-i.invariant c.in_ok-put_line.ensures)
