use Rattle.std.proofs.lemmas.Result.{on_ok_weaker}
use Rattle.std.specs.Prelude.{codes}
use Rattle.vl_tree.specs.Layout.{each_text, join_text}
use Rattle.vl_text.proofs.Chains.{then_adds}
use Rattle.vl_text.proofs.modules.instance.Goals as goal

pub returns : goal.returns
returns c = on_ok_weaker c.put-6.result (λ e.
    then_adds c.args.out.now.items (codes "  ") _ c.in_ok-put.ensures
    (then_adds c.put.new.out.items (c.args.leaf.now) _ c.in_ok-put-2.ensures
    (then_adds c.put-2.new.out.items (codes " ") _ c.in_ok-put-3.ensures
    (then_adds c.put-3.new.out.items (c.args.name.now) _ c.in_ok-put-4.ensures
    (then_adds c.put-4.new.out.items (codes " (\n    .clk(clk),\n    .rst(rst)") _ c.in_ok-put-5.ensures
    (then_adds c.put-5.new.out.items (each_text join_text c.args.js.now) _ c.in_ok-joins.ensures e)))))) c.put-6.ensures
