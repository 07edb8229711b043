use Rattle.std.proofs.Common.{◌≡◌, ◌++◌, [], ◌∷◌, sym, ◌∙◌}
use Rattle.std.specs.Prelude.{codes}
use Rattle.std.proofs.lemmas.Result.{err_from_is_err_and}
use Rattle.vl_tree.specs.Reading.{is_mark, phrase, join_at}
use Rattle.vl_read.specs.View.{placed}
use Rattle.vl_read.specs.Parts as parts
use Rattle.vl_read.proofs.Lists.{loop_on, loop_stops, loop_ends, loop_refused}
use Rattle.vl_read.proofs.Takes.{join_takes}
use Rattle.vl_read.proofs.modules.join_list.Goals as goal

pub joins-smaller : goal.joins-smaller
joins-smaller c = join_takes (placed c.joins.rest) (c.in_ok-one.one) (placed c.in_ok-one.after) c.in_ok-one.ensures

pub joins-preserved : goal.joins-preserved
joins-preserved c =
    let e : c.push.new.self ≡ c.joins.joins ++ c.in_ok-one.one ∷ [] = c.in_ok-push.ensures.ok in
    rw e (loop_on (is_mark (codes ",")) join_at (phrase (codes ") ;")) (c.joins.joins) (placed c.joins.rest) (c.in_ok-one.one) (placed c.in_ok-one.after) (parts.joins_at (placed c.args.ts)) join_takes (sym c.at_mark.ensures ∙ c.joins-test.true) c.in_ok-one.ensures c.joins.invariant)

pub returns-in_err-one : goal.returns-in_err-one
returns-in_err-one c =
    let p = err_from_is_err_and c.from_residual.result c.from_residual.ensures.1 in
    rw (p.1, p.2) (loop_stops c.in_err-one.field-0.0 (is_mark (codes ",")) join_at (phrase (codes ") ;")) (c.joins.joins) (placed c.joins.rest) (parts.joins_at (placed c.args.ts)) (sym c.at_mark.ensures ∙ c.joins-test.true) c.in_err-one.ensures c.joins.invariant)

pub returns-in_err-ts : goal.returns-in_err-ts
returns-in_err-ts c =
    let p = err_from_is_err_and c.from_residual-in_err-ts.result c.from_residual-in_err-ts.ensures.1 in
    rw (p.1, p.2) (loop_refused c.in_err-ts.field-0.0 (is_mark (codes ",")) join_at (phrase (codes ") ;")) (c.joins.joins) (placed c.joins.rest) (parts.joins_at (placed c.args.ts)) (sym c.at_mark.ensures ∙ c.joins-test.false) c.in_err-ts.ensures c.joins.invariant)

pub returns : goal.returns
returns c =
    loop_ends (is_mark (codes ",")) join_at (phrase (codes ") ;")) (c.joins.joins) (placed c.joins.rest) tt (placed c.in_ok-ts.ts) (parts.joins_at (placed c.args.ts)) (sym c.at_mark.ensures ∙ c.joins-test.false) c.in_ok-ts.ensures c.joins.invariant
