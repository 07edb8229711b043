use Rattle.std.proofs.Common.{◌≡◌, ◌++◌, [], ◌∷◌, map, sym, ◌∙◌}
use Rattle.std.specs.Prelude.{codes}
use Rattle.std.proofs.lemmas.Result.{err_from_is_err_and}
use Rattle.std.proofs.lemmas.List.{map_push}
use Rattle.vl_tree.specs.Read.{read}
use Rattle.vl_tree.specs.Reading.{expr_at, is_mark, phrase}
use Rattle.vl_read.specs.View.{placed}
use Rattle.vl_read.specs.Picks.{part_at, parts_at}
use Rattle.vl_read.specs.Lists.{more_of}
use Rattle.vl_read.proofs.Lists.{loop_on, loop_stops, loop_ends, loop_refused}
use Rattle.vl_read.proofs.Takes.{part_takes}
use Rattle.vl_read.proofs.expr.+expr.Goals as goal

pub parts-parts-smaller : goal.parts-parts-smaller
parts-parts-smaller t c =
    part_takes c.args.depth (placed c.parts.rest) (read c.in_ok-e.e) (placed c.in_ok-e.after) c.in_ok-e.ensures

pub parts-parts-preserved : goal.parts-parts-preserved
parts-parts-preserved t c =
    let e : map read c.push-in-parts.new.self ≡ map read c.parts.parts ++ read c.in_ok-e.e ∷ [] =
    rw c.in_ok-push-2.ensures.ok (map_push read c.parts.parts c.in_ok-e.e) in
    rw e (loop_on (is_mark (codes ",")) (part_at (expr_at c.args.depth)) (phrase (codes "}")) (map read c.parts.parts) (placed c.parts.rest) (read c.in_ok-e.e) (placed c.in_ok-e.after)
    (more_of (read c.args.first ∷ []) (parts_at (expr_at c.args.depth) (placed c.args.ts))) (part_takes c.args.depth) (sym c.at_mark.ensures ∙ c.parts-test.true) c.in_ok-e.ensures c.parts.invariant)

pub parts-returns-in_err-e : goal.parts-returns-in_err-e
parts-returns-in_err-e t c =
    let p = err_from_is_err_and c.from_residual-in_err-e.result c.from_residual-in_err-e.ensures.1 in
    rw (p.1, p.2) (loop_stops c.in_err-e.field-0.0 (is_mark (codes ",")) (part_at (expr_at c.args.depth)) (phrase (codes "}")) (map read c.parts.parts) (placed c.parts.rest)
    (more_of (read c.args.first ∷ []) (parts_at (expr_at c.args.depth) (placed c.args.ts))) (sym c.at_mark.ensures ∙ c.parts-test.true) c.in_err-e.ensures c.parts.invariant)

pub parts-returns-in_err-ts : goal.parts-returns-in_err-ts
parts-returns-in_err-ts t c =
    let p = err_from_is_err_and c.from_residual-in_err-ts.result c.from_residual-in_err-ts.ensures.1 in
    rw (p.1, p.2) (loop_refused c.in_err-ts.field-0.0 (is_mark (codes ",")) (part_at (expr_at c.args.depth)) (phrase (codes "}")) (map read c.parts.parts) (placed c.parts.rest)
    (more_of (read c.args.first ∷ []) (parts_at (expr_at c.args.depth) (placed c.args.ts))) (sym c.at_mark.ensures ∙ c.parts-test.false) c.in_err-ts.ensures c.parts.invariant)

pub parts-returns : goal.parts-returns
parts-returns t c =
    loop_ends (is_mark (codes ",")) (part_at (expr_at c.args.depth)) (phrase (codes "}")) (map read c.parts.parts) (placed c.parts.rest) tt (placed c.in_ok-ts.ts)
    (more_of (read c.args.first ∷ []) (parts_at (expr_at c.args.depth) (placed c.args.ts))) (sym c.at_mark.ensures ∙ c.parts-test.false) c.in_ok-ts.ensures c.parts.invariant
