use Rattle.std.proofs.Common.{◌+◌, ◌*◌, [], ◌∷◌, length, take, drop, get_or, subst}
use Rattle.std.proofs.lemmas.Result.{err_from_is_err_and}
use Rattle.aig_model.specs.Text.{line, latch_lines}
use Rattle.surf_base.specs.Block.{Puts, BreaksOff, Writes}
use Rattle.surf_base.proofs.Blocks.{Puts-then, BreaksOff-then, Writes-err}
use Rattle.aig_out.proofs.Lines.{latches-more, latches-rest}
use Rattle.aig_out.proofs.text.put_latches.Goals as goal

pub returns-in_err-put_line : goal.returns-in_err-put_line
returns-in_err-put_line g c =
    let k = c.args.first in
    let xs = c.args.latches.now in
    let i = c.loop-i.i in
    let p = err_from_is_err_and c.from_residual.result c.from_residual.ensures.1 in
    subst (Writes c.from_residual.result _ _) (latches-rest k xs (i + 1))
    (Writes-err c.from_residual.result p.0 _ _ (latch_lines k (take (i + 1) xs)) (latch_lines (k + length (take (i + 1) xs)) (drop (i + 1) xs)) p.1
    (subst (BreaksOff _ _) (latches-more k xs i 0 c.loop-i-test.true) (BreaksOff-then _ _ _ (latch_lines k (take i xs)) (line (2 * (k + i)) (get_or xs i 0 ∷ [])) c.loop-i.invariant c.in_err-put_line.ensures)))

pub loop-i-preserved : goal.loop-i-preserved
loop-i-preserved g c =
    let k = c.args.first in
    let xs = c.args.latches.now in
    let i = c.loop-i.i in
    subst (Puts _ _) (latches-more k xs i 0 c.loop-i-test.true) (Puts-then _ _ _ (latch_lines k (take i xs)) (line (2 * (k + i)) (get_or xs i 0 ∷ [])) c.loop-i.invariant c.in_ok-put_line.ensures)
