use Rattle.std.proofs.Common.{◌∙◌, arith}
use Rattle.route_stage.proofs.Routes.{domain-more, before-none, before-all}
use Rattle.route_stage.proofs.RouteStage.step.Goals as goal

pub loop-d-init : goal.loop-d-init
loop-d-init c =
    (c.requires.next, λ n e k made. before-none c.args.plan.now n c.args.fronts.now c.args.stages.now c.args.next.now e k)

pub loop-d-preserved : goal.loop-d-preserved
loop-d-preserved c = (
  c.step_domain.ensures.inputs,
  λ n e k made. domain-more c.args.plan.now n c.args.fronts.now c.args.stages.now c.args.next.now c.loop-d.next c.step_domain.new.next c.loop-d.d
      (λ e k. c.loop-d.invariant.1 n e k made) (λ e k. c.step_domain.ensures.routed n e k made) e k,
)

pub returns-clause-routed : goal.returns-clause-routed
returns-clause-routed c = λ n d k made there inside.
    c.loop-d.invariant.1 n d k made
    ∙ before-all c.args.plan.now n c.args.fronts.now c.args.stages.now c.args.next.now c.loop-d.d d k (omega (arith, there, c.loop-d-test.false, c.domains-d-end.ensures)) inside
