use Rattle.std.proofs.Common.{◌∷◌, []}
use Rattle.surf_base.proofs.Blocks.{Writes-then}
use Rattle.surf_cli.specs.Texts.{field}
use Rattle.std.proofs.lemmas.Result.{err_from_is_err_and}
use Rattle.surf_cli.proofs.Texts.{Writes-broken}
use Rattle.surf_cli.proofs.Parts.{in-first_of_5, in-second_of_5, in-third_of_5, in-fourth_of_5, puts-4}
use Rattle.surf_cli.proofs.table.put_line.Goals as goal

pub returns-in_err-put_field : goal.returns-in_err-put_field
returns-in_err-put_field g c =
    let e = err_from_is_err_and c.from_residual.result c.from_residual.ensures.1 in
    Writes-broken c.from_residual.result e.0 _ _ _ e.1
    (in-first_of_5 _ _ (field c.args.cycle) (field c.args.tile) (field c.args.port) c.args.name.now (10 ∷ []) c.in_err-put_field.ensures)

pub returns-in_err-put_field-2 : goal.returns-in_err-put_field-2
returns-in_err-put_field-2 g c =
    let e = err_from_is_err_and c.from_residual-in_err-put_field-2.result c.from_residual-in_err-put_field-2.ensures.1 in
    Writes-broken c.from_residual-in_err-put_field-2.result e.0 _ _ _ e.1
    (in-second_of_5 _ _ _ (field c.args.cycle) (field c.args.tile) (field c.args.port) c.args.name.now (10 ∷ []) c.in_ok-put_field.ensures c.in_err-put_field-2.ensures)

pub returns-in_err-put_field-3 : goal.returns-in_err-put_field-3
returns-in_err-put_field-3 g c =
    let e = err_from_is_err_and c.from_residual-in_err-put_field-3.result c.from_residual-in_err-put_field-3.ensures.1 in
    Writes-broken c.from_residual-in_err-put_field-3.result e.0 _ _ _ e.1
    (in-third_of_5 _ _ _ _ (field c.args.cycle) (field c.args.tile) (field c.args.port) c.args.name.now (10 ∷ []) c.in_ok-put_field.ensures c.in_ok-put_field-2.ensures
    c.in_err-put_field-3.ensures)

pub returns-in_err-put : goal.returns-in_err-put
returns-in_err-put g c =
    let e = err_from_is_err_and c.from_residual-in_err-put.result c.from_residual-in_err-put.ensures.1 in
    Writes-broken c.from_residual-in_err-put.result e.0 _ _ _ e.1
    (in-fourth_of_5 _ _ _ _ _ (field c.args.cycle) (field c.args.tile) (field c.args.port) c.args.name.now (10 ∷ []) c.in_ok-put_field.ensures c.in_ok-put_field-2.ensures
    c.in_ok-put_field-3.ensures c.in_err-put.ensures)

pub returns : goal.returns
returns g c =
    Writes-then c.put-2.result _ _ _ _ (10 ∷ [])
    (puts-4 _ _ _ _ _ (field c.args.cycle) (field c.args.tile) (field c.args.port) c.args.name.now c.in_ok-put_field.ensures c.in_ok-put_field-2.ensures c.in_ok-put_field-3.ensures
    c.in_ok-put.ensures) c.put-2.ensures
