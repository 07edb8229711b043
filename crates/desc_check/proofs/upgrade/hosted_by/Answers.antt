use Rattle.std.proofs.Common.{sym, ◌∙◌}
use Rattle.noc_model.specs.Plan.{name_of, hosts}
use Rattle.desc_check.proofs.Upgraded.{kept-next, left-next}
use Rattle.desc_check.proofs.upgrade.hosted_by.Goals as goal
use Rattle.desc_check.proofs.upgrade.hosted_by.Goals.{then-hosts+in_ok-from_slice+in_ok-push, else-hosts}

pub loop-d-preserved : goal.loop-d-preserved
loop-d-preserved c =
    let p = c.args.plan.now in
    elim c.if-hosts.branch [
      | then-hosts+in_ok-from_slice+in_ok-push w ↦
          rw w.names-is
          (kept-next (hosts p c.args.tile) (name_of p) c.loop-d.names _ c.loop-d.d w.in_ok-from_slice.field-0 (sym c.hosts.ensures ∙ w.if-hosts.true) c.loop-d.invariant w.in_ok-push.ensures.ok
          (w.in_ok-from_slice.ensures ∙ w.name.ensures))
      | else-hosts w ↦ rw w.names-is (left-next (hosts p c.args.tile) (name_of p) c.loop-d.names c.loop-d.d (sym c.hosts.ensures ∙ w.if-hosts.false) c.loop-d.invariant)
    ]
