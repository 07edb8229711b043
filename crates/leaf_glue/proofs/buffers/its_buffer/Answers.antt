use Rattle.std.proofs.Common.{◌+◌, arith}
use Rattle.vl_tree.specs.Read.{read_leaf}
use Rattle.flit_word.specs.Words.{dest_bits}
use Rattle.noc_model.specs.Plan.{ports}
use Rattle.leaf_tie.specs.Names.{buffer_names}
use Rattle.leaf_glue.proofs.Sized.{buffer_is}
use Rattle.leaf_glue.proofs.buffers.its_buffer.Goals as goal

pub returns : goal.returns
returns c =
    buffer_is c.in_ok-made.made (buffer_names c.args.domain c.args.port c.args.channel) c.args.plan.now.buffer (ports c.args.plan.now + 33 + dest_bits c.args.plan.now)
    (read_leaf c.args.work.now.leaf) (read_leaf c.buffer.new.work.leaf) c.in_ok-made.ensures.names c.in_ok-made.ensures.depth (omega (arith, c.in_ok-made.ensures.width)) c.in_ok-_nets.ensures.items
