use Rattle.std.proofs.Common.{◌∙◌}
use Rattle.vl_tree.specs.Read.{read_leaf}
use Rattle.gen_router.proofs.Whole.{leaf_whole}
use Rattle.gen_router.proofs.leaf_of.Goals as goal

pub returns : goal.returns
returns c =
    c.finish.ensures
    ∙ leaf_whole c.args.plan.now c.args.tile (read_leaf c.in_ok-work.work.leaf) (read_leaf c.tile_ports.new.work.leaf) (read_leaf c.inner.new.work.leaf)
    (read_leaf c.inner-2.new.work.leaf) (read_leaf c.outer.new.work.leaf) (read_leaf c.inner-3.new.work.leaf)
    c.in_ok-work.ensures c.in_ok-tile_ports.ensures c.in_ok-inner.ensures c.in_ok-inner-2.ensures c.in_ok-outer.ensures c.in_ok-inner-3.ensures
