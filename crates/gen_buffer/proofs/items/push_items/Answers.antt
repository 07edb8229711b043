use Rattle.vl_tree.specs.Read.{read_leaf}
use Rattle.gen_buffer.specs.Fifo.{fifo_heads, fifo_nets, fifo_moves}
use Rattle.gen_buffer.specs.Sizes.{index_high, count_high}
use Rattle.gen_buffer.specs.Buffer.{fifo_names}
use Rattle.std.specs.Prelude.{◌-◌}
use Rattle.gen_buffer.proofs.Shown.{items-joined}
use Rattle.gen_buffer.proofs.items.push_items.Goals as goal

pub returns : goal.returns
returns c =
    let s = c.args.spec.now in
    items-joined (read_leaf c.moves.new.work.leaf) (read_leaf c.args.work.now.leaf)
    (read_leaf c.declare.new.work.leaf) (read_leaf c.show.new.work.leaf)
    (fifo_heads (fifo_names s) (index_high s.depth) (count_high s.depth) (s.width - 1))
    (fifo_nets (fifo_names s) (count_high s.depth) (s.width - 1))
    (fifo_moves (fifo_names s) (index_high s.depth) (count_high s.depth))
    c.in_ok-declare.ensures c.in_ok-show.ensures c.in_ok-moves.ensures
