use Rattle.std.proofs.Common.{length, ◌∙◌, ap}
use Rattle.vl_tree.specs.Read.{read_items, read_leaf}
use Rattle.vl_model.specs.Lines.{leaf_lines}
use Rattle.vl_rules.specs.Scope.{widths_at}
use Rattle.vl_run.specs.Emit.{place_in}
use Rattle.vl_run.specs.Program.{assign_steps, next_steps, move_steps, stores_of, feeds_of, outs_of, registers_of, memories_of}
use Rattle.vl_run.proofs.program.Program.new.Goals as goal

pub returns : goal.returns
returns c =
    let l = c.args.leaf.now in
    let s = c.scope_of-scope.result in
    let d = c.scope_of-scope.ensures.declared in
    let k = c.scope_of-scope.ensures.lines in
    let i = c.as_slice-items.ensures in
    let xs = c.as_slice-items.result.now in
    let n = length (leaf_lines (read_leaf l.leaf.now)) in
    let t = place_in c.args.top.now.declared.now in
    let settle =
    c.in_ok-assigns.ensures ∙ ap (λ z. assign_steps (place_in z) (widths_at z s.lines) s.lines (read_items xs)) d ∙ ap (λ m. assign_steps (place_in l.declared.now) (widths_at l.declared.now m) m (read_items xs)) k
    ∙ ap (λ z. assign_steps (place_in l.declared.now) (widths_at l.declared.now n) n (read_items z)) i in
    let next =
    c.in_ok-next_edge.ensures ∙ ap (λ z. next_steps (place_in z) (widths_at z s.lines) s.lines (read_items xs)) d ∙ ap (λ m. next_steps (place_in l.declared.now) (widths_at l.declared.now m) m (read_items xs)) k
    ∙ ap (λ z. next_steps (place_in l.declared.now) (widths_at l.declared.now n) n (read_items z)) i in
    let stores =
    c.in_ok-stores.ensures ∙ ap (λ z. stores_of (place_in z) s.lines (read_items xs)) d ∙ ap (λ m. stores_of (place_in l.declared.now) m (read_items xs)) k ∙ ap (λ z. stores_of (place_in l.declared.now) n (read_items z)) i in
    let moves =
    c.in_ok-moves.ensures ∙ ap (λ z. move_steps (place_in z) s.lines (read_items xs)) d ∙ ap (λ m. move_steps (place_in l.declared.now) m (read_items xs)) k ∙ ap (λ z. move_steps (place_in l.declared.now) n (read_items z)) i in
    let feeds = c.in_ok-feeds.ensures ∙ ap (λ z. feeds_of (read_leaf l.leaf.now) (place_in z) t c.args.joins.now) d in
    let outs = c.in_ok-outs.ensures ∙ ap (λ z. outs_of (read_leaf l.leaf.now) (place_in z) t c.args.joins.now) d in
    let registers = c.in_ok-registers.ensures ∙ ap (λ z. registers_of (place_in z) (read_items xs)) d ∙ ap (λ z. registers_of (place_in l.declared.now) (read_items z)) i in
    let memories = c.in_ok-memories.ensures ∙ ap (λ z. memories_of (place_in z) (read_items xs)) d ∙ ap (λ z. memories_of (place_in l.declared.now) (read_items z)) i in
    λ j. record { settle = settle j; next = next j; stores = stores j; moves = moves j; feeds = feeds j; outs = outs j; registers = registers j; memories = memories j }
