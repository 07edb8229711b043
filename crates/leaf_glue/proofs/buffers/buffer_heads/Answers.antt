use Rattle.std.proofs.Common.{[], ◌∷◌, ◌+◌, ◌*◌}
use Rattle.vl_tree.specs.Read.{read_leaf}
use Rattle.vl_tree.specs.Values.{wire}
use Rattle.leaf_parts.proofs.Loops.{items_more}
use Rattle.leaf_glue.specs.Filled.{mover_name, its_buffer}
use Rattle.leaf_glue.proofs.buffers.buffer_heads.Goals as goal

pub returns : goal.returns
returns c =
    let d = c.args.domain in
    let port = c.args.port in
    let k = c.args.channel in
    let buffer = its_buffer c.args.plan.now d port k in
    let behind = items_more (read_leaf c.mover_wire.new.work.leaf) (read_leaf c.mover_wire-2.new.work.leaf) (read_leaf c.its_buffer.new.work.leaf) (wire 0 (mover_name d port (2 * k + 1)) ∷ []) buffer
    c.in_ok-mover_wire-2.ensures c.in_ok-its_buffer.ensures in
    items_more (read_leaf c.args.work.now.leaf) (read_leaf c.mover_wire.new.work.leaf) (read_leaf c.its_buffer.new.work.leaf) (wire 0 (mover_name d port (2 * k)) ∷ []) (wire 0 (mover_name d port (2 * k + 1)) ∷ buffer)
    c.in_ok-mover_wire.ensures behind
