use Rattle.std.proofs.Common.{◌≡◌, ◌++◌, [], ◌∷◌, sym, ◌∙◌}
use Rattle.std.specs.Prelude.{codes}
use Rattle.std.proofs.lemmas.Result.{err_from_is_err_and}
use Rattle.vl_tree.specs.Reading.{goes_on, phrase, top_item_at}
use Rattle.vl_read.specs.View.{placed}
use Rattle.vl_read.specs.Parts as parts
use Rattle.vl_read.proofs.Lists.{loop_on, loop_stops, loop_ends, loop_refused}
use Rattle.vl_read.proofs.Takes.{top_item_takes}
use Rattle.vl_read.proofs.modules.top_list.Goals as goal

pub items-smaller : goal.items-smaller
items-smaller c = top_item_takes (placed c.items.rest) (c.in_ok-one.one) (placed c.in_ok-one.after) c.in_ok-one.ensures

pub items-preserved : goal.items-preserved
items-preserved c =
    let e : c.push.new.self ≡ c.items.items ++ c.in_ok-one.one ∷ [] = c.in_ok-push.ensures.ok in
    rw e (loop_on goes_on top_item_at (phrase (codes "endmodule")) (c.items.items) (placed c.items.rest) (c.in_ok-one.one) (placed c.in_ok-one.after) (parts.top_items_at (placed c.args.ts)) top_item_takes (sym c.goes_on.ensures ∙ c.items-test.true) c.in_ok-one.ensures c.items.invariant)

pub returns-in_err-one : goal.returns-in_err-one
returns-in_err-one c =
    let p = err_from_is_err_and c.from_residual.result c.from_residual.ensures.1 in
    rw (p.1, p.2) (loop_stops c.in_err-one.field-0.0 goes_on top_item_at (phrase (codes "endmodule")) (c.items.items) (placed c.items.rest) (parts.top_items_at (placed c.args.ts)) (sym c.goes_on.ensures ∙ c.items-test.true) c.in_err-one.ensures c.items.invariant)

pub returns-in_err-ts : goal.returns-in_err-ts
returns-in_err-ts c =
    let p = err_from_is_err_and c.from_residual-in_err-ts.result c.from_residual-in_err-ts.ensures.1 in
    rw (p.1, p.2) (loop_refused c.in_err-ts.field-0.0 goes_on top_item_at (phrase (codes "endmodule")) (c.items.items) (placed c.items.rest) (parts.top_items_at (placed c.args.ts)) (sym c.goes_on.ensures ∙ c.items-test.false) c.in_err-ts.ensures c.items.invariant)

pub returns : goal.returns
returns c =
    loop_ends goes_on top_item_at (phrase (codes "endmodule")) (c.items.items) (placed c.items.rest) tt (placed c.in_ok-ts.ts) (parts.top_items_at (placed c.args.ts)) (sym c.goes_on.ensures ∙ c.items-test.false) c.in_ok-ts.ensures c.items.invariant
