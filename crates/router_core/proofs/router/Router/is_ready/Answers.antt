use Rattle.std.proofs.Common.{◌≡◌, ◌∙◌, ◌<◌, ◌≤◌, length, sym, ap, arith, false}
use Rattle.std.specs.Prelude.{nat_lt, pos}
use Rattle.std.proofs.lemmas.Bool.Decides.{nat_tests}
use Rattle.noc_model.specs.declared.Stage.TheVariants.{Idle}
use Rattle.noc_model.specs.Inputs.{input_port, input_channel}
use Rattle.noc_model.specs.Step.{is_ready_at}
use Rattle.vc_partition.specs.Lanes.{lane}
use Rattle.route_stage.specs.Routed.{stage_at}
use Rattle.vc_alloc.proofs.Wanted.{get-some}
use Rattle.router_core.specs.Attachments.{told_at, outside}
use Rattle.router_core.specs.Buffers.{flits_at}
use Rattle.router_core.specs.Parts.{Parts}
use Rattle.router_core.proofs.Takes.{stage-there, flits-there, first-there, ready-empty}
use Rattle.router_core.proofs.router.Router.is_ready.Goals as goal

pub returns-then-len-gt0 : goal.returns-then-len-gt0
returns-then-len-gt0 c = λ s t shown stands.
    let p = c.args.plan.now in
    let d = c.args.d in
    let k = c.args.k in
    let now = c.args.self.now in
    let i = outside (told_at now.told d) in
    let flits = ap (λ (r : Parts). flits_at r.buffers d k) c.self.view_is ∙ flits-there now p d s k shown c.requires.input in
    let some : 0 < length (s.queue (input_port p d k) (input_channel p d k)) = let a = c.len.ensures in let b = ap length flits in omega (arith, a, b, c.if-len-gt0.true) in
    let first = first-there (s.queue (input_port p d k) (input_channel p d k)) some in
    let stage : c.at.result.now ≡ s.stage (input_port p d k) (input_channel p d k) =
    sym (get-some (lane c.self.inside.stages d) k c.at.result.now Idle c.at.ensures) ∙ ap (λ (r : Parts). stage_at r.stages d k) c.self.view_is ∙ stage-there now p d s k shown c.requires.input in
    c.may_send.ensures s t first.0 first.1 shown stands
    ∙ ap (λ fs. is_ready_at p d now.tile (pos t) s i fs c.at.result.now) (sym first.2)
    ∙ ap (is_ready_at p d now.tile (pos t) s i (s.queue (input_port p d k) (input_channel p d k))) stage

pub returns-else-len-gt0 : goal.returns-else-len-gt0
returns-else-len-gt0 c = λ s t shown stands.
    let p = c.args.plan.now in
    let d = c.args.d in
    let k = c.args.k in
    let now = c.args.self.now in
    let flits = ap (λ (r : Parts). flits_at r.buffers d k) c.self.view_is ∙ flits-there now p d s k shown c.requires.input in
    let none : length (s.queue (input_port p d k) (input_channel p d k)) ≤ 0 = let a = c.len.ensures in let b = ap length flits in omega (arith, a, b, c.if-len-gt0.false) in
    let test : nat_lt 0 c.len.result ≡ false = let a = c.if-len-gt0.false in grind (arith, nat_tests) in
    test ∙ sym (ready-empty p d now.tile (pos t) s (outside (told_at now.told d)) (s.queue (input_port p d k) (input_channel p d k)) (s.stage (input_port p d k) (input_channel p d k)) none)
