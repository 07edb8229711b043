use Rattle.std.proofs.Common.{◌∷◌, [], ◌++◌, ap, subst}
use Rattle.std.specs.Prelude.{decimal}
use Rattle.surf_base.specs.Block.{Writes}
use Rattle.surf_base.proofs.Blocks.{Writes-then}
use Rattle.surf_cli.specs.Texts.{field}
use Rattle.std.proofs.lemmas.Result.{err_from_is_err_and}
use Rattle.surf_cli.proofs.Texts.{Writes-broken}
use Rattle.surf_cli.proofs.Parts.{in-first_of_4, in-second_of_4, in-third_of_4, puts-3}
use Rattle.surf_cli.proofs.routes.put_line.Goals as goal

pub returns-in_err-put_field : goal.returns-in_err-put_field
returns-in_err-put_field g c =
    let e = err_from_is_err_and c.from_residual.result c.from_residual.ensures.1 in
    Writes-broken c.from_residual.result e.0 _ _ _ e.1
    (in-first_of_4 _ _ (field c.args.tile) (field c.args.dest) (field c.args.port) (decimal c.args.class ++ 10 ∷ []) c.in_err-put_field.ensures)

pub returns-in_err-put_field-2 : goal.returns-in_err-put_field-2
returns-in_err-put_field-2 g c =
    let e = err_from_is_err_and c.from_residual-in_err-put_field-2.result c.from_residual-in_err-put_field-2.ensures.1 in
    Writes-broken c.from_residual-in_err-put_field-2.result e.0 _ _ _ e.1
    (in-second_of_4 _ _ _ (field c.args.tile) (field c.args.dest) (field c.args.port) (decimal c.args.class ++ 10 ∷ []) c.in_ok-put_field.ensures c.in_err-put_field-2.ensures)

pub returns-in_err-put_field-3 : goal.returns-in_err-put_field-3
returns-in_err-put_field-3 g c =
    let e = err_from_is_err_and c.from_residual-in_err-put_field-3.result c.from_residual-in_err-put_field-3.ensures.1 in
    Writes-broken c.from_residual-in_err-put_field-3.result e.0 _ _ _ e.1
    (in-third_of_4 _ _ _ _ (field c.args.tile) (field c.args.dest) (field c.args.port) (decimal c.args.class ++ 10 ∷ []) c.in_ok-put_field.ensures c.in_ok-put_field-2.ensures
    c.in_err-put_field-3.ensures)

pub returns : goal.returns
returns g c =
    Writes-then c.put_number_then.result _ _ _ _ (decimal c.args.class ++ 10 ∷ [])
    (puts-3 _ _ _ _ (field c.args.tile) (field c.args.dest) (field c.args.port) c.in_ok-put_field.ensures c.in_ok-put_field-2.ensures c.in_ok-put_field-3.ensures)
    (subst (Writes c.put_number_then.result _ _) (ap (λ n. decimal n ++ 10 ∷ []) c.from.ensures) c.put_number_then.ensures)
