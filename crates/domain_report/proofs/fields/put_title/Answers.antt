use Rattle.std.proofs.Common.{◌∷◌, [], ◌++◌}
use Rattle.std.specs.Prelude.{codes}
use Rattle.std.proofs.lemmas.Result.{err_from_is_err_and}
use Rattle.surf_base.proofs.Blocks.{Writes-then, Writes-err, Puts-then, BreaksOff-then, BreaksOff-more}
use Rattle.domain_report.proofs.fields.put_title.Goals as goal

pub returns-in_err-put : goal.returns-in_err-put
returns-in_err-put g c =
    let p = err_from_is_err_and c.from_residual.result c.from_residual.ensures.1 in
    Writes-err c.from_residual.result p.0 _ _ (codes "domain " ++ c.args.name.now) (10 ∷ []) p.1
    (BreaksOff-more _ _ (codes "domain ") c.args.name.now c.in_err-put.ensures)

pub returns-in_err-put-2 : goal.returns-in_err-put-2
returns-in_err-put-2 g c =
    let p = err_from_is_err_and c.from_residual-in_err-put-2.result c.from_residual-in_err-put-2.ensures.1 in
    Writes-err c.from_residual-in_err-put-2.result p.0 _ _ (codes "domain " ++ c.args.name.now) (10 ∷ []) p.1
    (BreaksOff-then _ _ _ (codes "domain ") c.args.name.now c.in_ok-put.ensures c.in_err-put-2.ensures)

pub returns : goal.returns
returns g c =
    Writes-then c.put-3.result _ _ _ (codes "domain " ++ c.args.name.now) (10 ∷ []) (Puts-then _ _ _ (codes "domain ") c.args.name.now c.in_ok-put.ensures c.in_ok-put-2.ensures)
    c.put-3.ensures
