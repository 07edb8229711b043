use Rattle.std.proofs.Common.{◌-◌, sym, arith}
use Rattle.vl_tree.specs.Read.{read_leaf}
use Rattle.leaf_parts.proofs.Found.{count_more, count_same, nets_more, nets_same}
use Rattle.leaf_parts.proofs.attach.look_nets.Goals as goal

pub loop-i-preserved-then-hosts : goal.loop-i-preserved-then-hosts
loop-i-preserved-then-hosts c =
    let p = c.args.plan.now in
    let d = c.args.domain in
    let i = c.loop-i.i - 1 in
    let k = c.loop-i.count in
    let r = c.range-range.result in
    let reached = sym c.if-hosts.ensures in
    let counted = c.loop-i.invariant.count in
    record {
      within = omega arith;
      few = omega arith;
      count = count_more p d i c.loop-i.i k r (omega arith) c.range-range.ensures reached counted;
      items = nets_more p c.args.tile d i c.loop-i.i k r (read_leaf c.args.work.now.leaf) (read_leaf c.loop-i.work.leaf) (read_leaf c.look_net.new.work.leaf) (omega arith)
          c.range-range.ensures reached counted c.loop-i.invariant.items c.in_ok-look_net.ensures;
    }

pub loop-i-preserved : goal.loop-i-preserved
loop-i-preserved c =
    let p = c.args.plan.now in
    let d = c.args.domain in
    let i = c.loop-i.i - 1 in
    let r = c.range-range.result in
    let away = sym c.if-hosts.ensures in
    record {
      within = omega arith;
      few = omega arith;
      count = count_same p d i c.loop-i.i c.loop-i.count r (omega arith) c.range-range.ensures away c.loop-i.invariant.count;
      items = nets_same p c.args.tile d i c.loop-i.i r (read_leaf c.args.work.now.leaf) (read_leaf c.loop-i.work.leaf) (omega arith) c.range-range.ensures away c.loop-i.invariant.items;
    }
