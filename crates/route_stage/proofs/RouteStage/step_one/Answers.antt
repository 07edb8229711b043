use Rattle.std.proofs.Common.{◌<◌, length, None, ap, ◌∙◌, arith}
use Rattle.noc_model.specs.declared.Stage.TheVariants.{Idle}
use Rattle.vc_partition.specs.Lanes.{lane}
use Rattle.route_stage.specs.Routed.{with_stage}
use Rattle.route_stage.proofs.Routes.{read-is, routed-value, still-inputs}
use Rattle.route_stage.proofs.RouteStage.step_one.Goals as goal

pub returns-clause-routed : goal.returns-clause-routed
returns-clause-routed c = λ n made.
    let p = c.args.plan.now in
    let d = c.args.d in
    let i = c.args.i in
    let front_in : i < length (lane c.args.fronts.now d) = let a = c.requires.fronts.inputs d c.requires.domain in omega (arith, a, c.requires.input) in
    let stage_in : i < length (lane c.args.stages.now d) = let a = c.requires.stages.inputs d c.requires.domain in omega (arith, a, c.requires.input) in
    let next_in : i < length (lane c.args.next.now d) = let a = c.requires.next.inputs d c.requires.domain in omega (arith, a, c.requires.input) in
    c.set.ensures
    ∙ ap (with_stage c.args.next.now d i)
    (c.routed-stage.ensures
    ∙ routed-value p n c.deref.result.now _ c.at.result.now _ c.at-2.result.now _ c.at-3.result.now (c.deref.ensures.value ∙ c.self.view_is ∙ made)
    (read-is (lane c.args.fronts.now d) i c.at.result.now None front_in c.at.ensures)
    (read-is (lane c.args.stages.now d) i c.at-2.result.now Idle stage_in c.at-2.ensures)
    (read-is (lane c.args.next.now d) i c.at-3.result.now Idle next_in c.at-3.ensures) c.requires.dest)

pub returns-clause-inputs : goal.returns-clause-inputs
returns-clause-inputs c =
    rw c.set.ensures (still-inputs c.args.plan.now c.args.next.now c.args.d c.args.i c.routed-stage.result c.requires.domain c.requires.next)
