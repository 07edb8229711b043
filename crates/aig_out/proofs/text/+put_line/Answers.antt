use Rattle.std.proofs.Common.{◌-◌, ◌++◌, [], ◌∷◌, length, take, drop, get_or, subst}
use Rattle.std.specs.Prelude.{decimal}
use Rattle.aig_model.specs.Text.{line}
use Rattle.surf_base.specs.Block.{BreaksOff, Writes}
use Rattle.surf_base.proofs.Blocks.{Writes-then, BreaksOff-more}
use Rattle.aig_out.proofs.Lines.{line-more}
use Rattle.aig_out.proofs.text.+put_line.Goals as goal

pub returns-in-Ok : goal.returns-in-Ok
returns-in-Ok g t c =
    let ms = c.args.more.now in
    subst (Writes c.put_line.result _ _) (line-more c.args.first ms c.if-more-gt0.true)
    (Writes-then c.put_line.result _ _ _ (decimal c.args.first ++ 32 ∷ []) (line (get_or ms 0 0) (take (length ms - 1) (drop 1 ms))) c.in-Ok.ensures c.put_line.ensures)

pub returns-in-Err : goal.returns-in-Err
returns-in-Err g t c =
    let ms = c.args.more.now in
    subst (BreaksOff _ _) (line-more c.args.first ms c.if-more-gt0.true)
    (BreaksOff-more _ _ (decimal c.args.first ++ 32 ∷ []) (line (get_or ms 0 0) (take (length ms - 1) (drop 1 ms))) c.in-Err.ensures)
