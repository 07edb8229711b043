use Rattle.std.proofs.lemmas.Result.{on_ok_weaker}
use Rattle.std.specs.Prelude.{codes}
use Rattle.vl_tree.specs.Read.{read_items}
use Rattle.vl_tree.specs.Layout.{each_text, item_text, head_text}
use Rattle.vl_text.proofs.Chains.{then_adds, then_puts}
use Rattle.vl_text.proofs.modules.leaf.Goals as goal

pub returns : goal.returns
returns c = on_ok_weaker c.put-3.result (λ e.
    then_adds c.args.out.now.items (codes "module ") _ c.in_ok-put.ensures
    (then_puts (λ x. x) c.put.new.out.items c.args.l.now.name _ c.in_ok-put-2.ensures c.as_slice.ensures
    (then_puts (head_text) c.put-2.new.out.items c.args.l.now.ports _ c.in_ok-head.ensures c.as_slice-2.ensures
    (then_puts (λ xs. each_text item_text (read_items xs)) c.head.new.out.items c.args.l.now.items _ c.in_ok-items.ensures c.as_slice-3.ensures e)))) c.put-3.ensures
