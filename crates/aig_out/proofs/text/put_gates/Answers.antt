use Rattle.std.proofs.Common.{◌+◌, ◌*◌, [], ◌∷◌, length, take, drop, get_or, subst}
use Rattle.std.proofs.lemmas.Result.{err_from_is_err_and}
use Rattle.aig_model.specs.declared.form.Gate.{Gate}
use Rattle.aig_model.specs.Text.{line, gate_lines}
use Rattle.surf_base.specs.Block.{Puts, BreaksOff, Writes}
use Rattle.surf_base.proofs.Blocks.{Puts-then, BreaksOff-then, Writes-err}
use Rattle.aig_out.proofs.Lines.{gates-more, gates-rest}
use Rattle.aig_out.proofs.text.put_gates.Goals as goal

pub returns-in_err-put_line : goal.returns-in_err-put_line
returns-in_err-put_line g c =
    let k = c.args.first in
    let xs = c.args.gates.now in
    let i = c.loop-i.i in
    let none : Gate = record { first = 0; second = 0 } in
    let p = err_from_is_err_and c.from_residual.result c.from_residual.ensures.1 in
    subst (Writes c.from_residual.result _ _) (gates-rest k xs (i + 1))
    (Writes-err c.from_residual.result p.0 _ _ (gate_lines k (take (i + 1) xs)) (gate_lines (k + length (take (i + 1) xs)) (drop (i + 1) xs)) p.1
    (subst (BreaksOff _ _) (gates-more k xs i none c.loop-i-test.true) (BreaksOff-then _ _ _ (gate_lines k (take i xs)) (line (2 * (k + i)) ((get_or xs i none).first ∷ (get_or xs i none).second ∷ [])) c.loop-i.invariant c.in_err-put_line.ensures)))

pub loop-i-preserved : goal.loop-i-preserved
loop-i-preserved g c =
    let k = c.args.first in
    let xs = c.args.gates.now in
    let i = c.loop-i.i in
    let none : Gate = record { first = 0; second = 0 } in
    subst (Puts _ _) (gates-more k xs i none c.loop-i-test.true) (Puts-then _ _ _ (gate_lines k (take i xs)) (line (2 * (k + i)) ((get_or xs i none).first ∷ (get_or xs i none).second ∷ [])) c.loop-i.invariant c.in_ok-put_line.ensures)
