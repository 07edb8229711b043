use Rattle.std.proofs.lemmas.Result.{on_ok_weaker}
use Rattle.std.specs.Prelude.{codes}
use Rattle.vl_tree.specs.Read.{read}
use Rattle.vl_tree.specs.Layout.{const_text, expr_text}
use Rattle.vl_text.proofs.Chains.{then_adds}
use Rattle.vl_text.proofs.modules.clocked.Goals as goal

pub returns : goal.returns
returns c = on_ok_weaker c.put-7.result (λ e.
    then_adds c.args.out.now.items (codes "  always @(posedge clk) if (rst) ") _ c.in_ok-put.ensures
    (then_adds c.put.new.out.items (c.args.name.now) _ c.in_ok-put-2.ensures
    (then_adds c.put-2.new.out.items (codes " <= ") _ c.in_ok-put-3.ensures
    (then_adds c.put-3.new.out.items (const_text c.args.reset.now) _ c.in_ok-constant.ensures
    (then_adds c.constant.new.out.items (codes "; else ") _ c.in_ok-put-4.ensures
    (then_adds c.put-4.new.out.items (c.args.name.now) _ c.in_ok-put-5.ensures
    (then_adds c.put-5.new.out.items (codes " <= ") _ c.in_ok-put-6.ensures
    (then_adds c.put-6.new.out.items (expr_text (read c.args.value.now)) _ c.in_ok-expr.ensures e)))))))) c.put-7.ensures
