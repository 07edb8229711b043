use Rattle.std.specs.Prelude.{codes}
use Rattle.std.proofs.lemmas.Result.{err_from_is_err_and}
use Rattle.vl_tree.specs.Reading.{one, the_name}
use Rattle.vl_read.specs.View.{placed}
use Rattle.vl_read.proofs.Singles.{closed_gives, closed_fails}
use Rattle.vl_read.proofs.modules.instance_name.Goals as goal

pub returns-in_err-ts : goal.returns-in_err-ts
returns-in_err-ts c =
    let p = err_from_is_err_and c.from_residual-in_err-ts.result c.from_residual-in_err-ts.ensures.1 in
    rw (p.1, p.2) (closed_fails c.in_err-ts.field-0.0 (one the_name) (codes "( . clk ( clk ) , . rst ( rst )") (placed c.args.ts) c.in_ok-name.name (placed c.in_ok-name.ts) c.in_ok-name.ensures c.in_err-ts.ensures)

pub returns : goal.returns
returns c =
    closed_gives (one the_name) (codes "( . clk ( clk ) , . rst ( rst )") (placed c.args.ts) c.in_ok-name.name (placed c.in_ok-name.ts) (placed c.in_ok-ts.ts) c.in_ok-name.ensures c.in_ok-ts.ensures
