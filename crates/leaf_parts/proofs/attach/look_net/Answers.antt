use Rattle.std.proofs.Common.{◌+◌}
use Rattle.vl_tree.specs.Read.{read, read_leaf}
use Rattle.flit_word.specs.Words.{dest_bits}
use Rattle.leaf_parts.specs.Entries.{its_names, range_choice}
use Rattle.leaf_parts.proofs.Loops.{define_is}
use Rattle.leaf_parts.proofs.attach.look_net.Goals as goal

pub returns : goal.returns
returns c =
    define_is (read_leaf c.args.work.now.leaf) (read_leaf c.define.new.self.leaf) c.dest_bits.result (dest_bits c.args.plan.now) c.in_ok-name.name ((its_names c.args.domain).look (c.args.count + 1))
    (read c.in_ok-value.value) (range_choice c.args.plan.now c.args.tile c.args.domain c.args.range c.args.count) c.in_ok-define.ensures c.dest_bits.ensures.value c.in_ok-name.ensures c.in_ok-value.ensures
