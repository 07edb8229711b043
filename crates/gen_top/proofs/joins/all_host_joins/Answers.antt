use Rattle.gen_top.proofs.Rows.{hosts_more}
use Rattle.gen_top.proofs.joins.all_host_joins.Goals as goal

pub loop-j-preserved : goal.loop-j-preserved
loop-j-preserved c =
    hosts_more c.args.tile c.loop-j.j c.args.plan.now.hosts c.attach.result c.args.joins.now
    c.loop-j.joins c.joins_at.new.joins c.attach.ensures c.loop-j.invariant c.in_ok-joins_at.ensures
