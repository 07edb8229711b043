use Rattle.std.proofs.Common.{◌≡◌, ◌∙◌, List, length, sym, ap}
use Rattle.noc_model.specs.declared.Flit.{Flit}
use Rattle.noc_model.specs.declared.Stage.TheVariants.{Idle}
use Rattle.noc_model.specs.Inputs.{input_port, input_channel}
use Rattle.vc_partition.specs.Lanes.{lane}
use Rattle.route_stage.specs.Routed.{stage_at}
use Rattle.vc_alloc.proofs.Wanted.{get-some}
use Rattle.router_core.specs.Buffers.{flits_at}
use Rattle.router_core.specs.Idle.{is_busy}
use Rattle.router_core.specs.Parts.{Parts}
use Rattle.router_core.proofs.Takes.{stage-there, flits-there}
use Rattle.router_core.proofs.router.Router.busy.Goals as goal

pub returns-clause-shows : goal.returns-clause-shows
returns-clause-shows c = λ p s shown inside.
    let d = c.args.d in
    let k = c.args.i in
    let now = c.args.self.now in
    let fs : List Flit = s.queue (input_port p d k) (input_channel p d k) in
    let flits = ap (λ (r : Parts). flits_at r.buffers d k) c.self.view_is ∙ flits-there now p d s k shown inside in
    let stage : c.at.result.now ≡ s.stage (input_port p d k) (input_channel p d k) =
    sym (get-some (lane c.self.inside.stages d) k c.at.result.now Idle c.at.ensures) ∙ ap (λ (r : Parts). stage_at r.stages d k) c.self.view_is ∙ stage-there now p d s k shown inside in
    c.is_busy.ensures fs (sym (c.len.ensures ∙ ap length flits)) ∙ ap (is_busy fs) stage
