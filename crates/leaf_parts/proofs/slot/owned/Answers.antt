use Rattle.std.proofs.Common.{◌-◌, arith}
use Rattle.vl_tree.specs.Read.{read}
use Rattle.leaf_tie.specs.Names.{slot_names}
use Rattle.leaf_parts.proofs.Owned.{owned_more}
use Rattle.leaf_parts.proofs.slot.owned.Goals as goal

pub loop-k-preserved : goal.loop-k-preserved
loop-k-preserved c =
    (omega arith, owned_more (slot_names c.args.first) c.args.high c.args.plan.now.slots (c.loop-k.k - 1) c.loop-k.k c.args.domain (read c.loop-k.rest) (read c.in_ok-next.next) (omega arith) (omega arith) c.loop-k.invariant.1 c.in_ok-next.ensures)
