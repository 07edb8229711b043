use Rattle.vl_tree.specs.Read.{read_leaf}
use Rattle.gen_buffer.proofs.Shown.{buffer-in}
use Rattle.gen_buffer.proofs.buffer.Goals as goal

pub returns-clause-list : goal.returns-clause-list
returns-clause-list c =
    buffer-in c.args.spec.now c.in_ok-nets.nets (read_leaf c.args.work.now.leaf) (read_leaf c.push_items.new.work.leaf)
    c.in_ok-nets.ensures c.requires.deep c.in_ok-push_items.ensures
