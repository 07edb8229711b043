use Rattle.std.proofs.lemmas.Result.{on_ok_weaker}
use Rattle.std.specs.Prelude.{codes}
use Rattle.vl_tree.specs.Layout.{each_text, top_item_text, head_text}
use Rattle.vl_text.proofs.Chains.{then_adds, then_puts}
use Rattle.vl_text.proofs.modules.top.Goals as goal

pub returns : goal.returns
returns c = on_ok_weaker c.put-2.result (λ e.
    then_adds c.args.out.now.items (codes "module noc") _ c.in_ok-put.ensures
    (then_puts (head_text) c.put.new.out.items c.args.t.now.ports _ c.in_ok-head.ensures c.as_slice.ensures
    (then_puts (λ xs. each_text top_item_text xs) c.head.new.out.items c.args.t.now.items _ c.in_ok-top_items.ensures c.as_slice-2.ensures e))) c.put-2.ensures
