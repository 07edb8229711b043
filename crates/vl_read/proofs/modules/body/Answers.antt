use Rattle.std.proofs.Common.{◌≡◌, ◌++◌, [], ◌∷◌, sym, ◌∙◌}
use Rattle.std.proofs.lemmas.Result.{err_from_is_err_and}
use Rattle.std.proofs.lemmas.List.{map_push}
use Rattle.vl_tree.specs.Read.{read_leaf, read_leaves}
use Rattle.vl_tree.specs.Reading.{is_name_token, leaf_at, top_at}
use Rattle.vl_read.specs.View.{placed}
use Rattle.vl_read.specs.Parts as parts
use Rattle.vl_read.proofs.Lists.{loop_on, loop_stops, loop_ends, loop_refused}
use Rattle.vl_read.proofs.Takes.{leaf_takes}
use Rattle.vl_read.proofs.modules.body.Goals as goal

pub leaves-smaller : goal.leaves-smaller
leaves-smaller c =
    leaf_takes (placed c.leaves.rest) (read_leaf c.in_ok-one.one) (placed c.in_ok-one.after) c.in_ok-one.ensures

pub leaves-preserved : goal.leaves-preserved
leaves-preserved c =
    let e : read_leaves c.push.new.self ≡ read_leaves c.leaves.leaves ++ read_leaf c.in_ok-one.one ∷ [] =
    rw c.in_ok-push.ensures.ok (map_push read_leaf c.leaves.leaves c.in_ok-one.one) in
    rw e (loop_on is_name_token leaf_at top_at (read_leaves c.leaves.leaves) (placed c.leaves.rest) (read_leaf c.in_ok-one.one) (placed c.in_ok-one.after) (parts.modules_behind (placed c.args.ts)) leaf_takes (sym c.at_name.ensures ∙ c.leaves-test.true) c.in_ok-one.ensures c.leaves.invariant)

pub returns-in_err-one : goal.returns-in_err-one
returns-in_err-one c =
    let p = err_from_is_err_and c.from_residual.result c.from_residual.ensures.1 in
    rw (p.1, p.2) (loop_stops c.in_err-one.field-0.0 is_name_token leaf_at top_at (read_leaves c.leaves.leaves) (placed c.leaves.rest) (parts.modules_behind (placed c.args.ts)) (sym c.at_name.ensures ∙ c.leaves-test.true) c.in_err-one.ensures c.leaves.invariant)

pub returns-in_err-top : goal.returns-in_err-top
returns-in_err-top c =
    let p = err_from_is_err_and c.from_residual-in_err-top.result c.from_residual-in_err-top.ensures.1 in
    rw (p.1, p.2) (loop_refused c.in_err-top.field-0.0 is_name_token leaf_at top_at (read_leaves c.leaves.leaves) (placed c.leaves.rest) (parts.modules_behind (placed c.args.ts)) (sym c.at_name.ensures ∙ c.leaves-test.false) c.in_err-top.ensures c.leaves.invariant)

pub returns : goal.returns
returns c =
    loop_ends is_name_token leaf_at top_at (read_leaves c.leaves.leaves) (placed c.leaves.rest) c.in_ok-top.top (placed c.in_ok-top.ts) (parts.modules_behind (placed c.args.ts)) (sym c.at_name.ensures ∙ c.leaves-test.false) c.in_ok-top.ensures c.leaves.invariant
