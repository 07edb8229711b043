use Rattle.gen_top.proofs.Rows.{links_more}
use Rattle.gen_top.proofs.joins.all_link_joins.Goals as goal

pub loop-port-preserved : goal.loop-port-preserved
loop-port-preserved c =
    links_more c.args.plan.now c.args.tile c.loop-port.port c.args.joins.now
    c.loop-port.joins c.link_joins.new.joins c.loop-port.invariant c.in_ok-link_joins.ensures
