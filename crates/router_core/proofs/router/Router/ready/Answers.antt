use Rattle.std.proofs.Common.{◌∙◌, ◌<◌, length, ap, arith}
use Rattle.std.proofs.lemmas.List.{get_or_read}
use Rattle.noc_model.specs.Plan.{link_channels}
use Rattle.noc_model.specs.Inputs.{place}
use Rattle.noc_model.specs.Step.{is_ready_packet, is_open}
use Rattle.noc_model.proofs.Inputs.{input-within}
use Rattle.router_core.specs.declared.attachments.Attachment.{Attachment}
use Rattle.router_core.specs.Attachments.{start_attachment, attachment_at}
use Rattle.router_core.specs.Buffers.{flits_at}
use Rattle.router_core.specs.Parts.{Parts}
use Rattle.router_core.proofs.router.Router.ready.Goals as goal

pub returns : goal.returns
unfolding is_open
returns c = λ s shown.
    let p = c.args.plan.now in
    let d = c.args.d in
    let now = c.args.self.now in
    let long = ap (λ (r : Parts). length r.attachments) c.self.view_is in
    let made = c.requires.made.attachments in
    let there : d < length c.self.inside.attachments.items = let a = made.domains in omega (arith, long, a, c.requires.domain) in
    let at = get_or_read c.self.inside.attachments.items _ _ there c.index-attachment.ensures start_attachment
    ∙ ap (λ (r : Parts). attachment_at r.attachments d) c.self.view_is in
    let current = ap (λ (x : Attachment). x.current) at in
    let few = made.current d c.requires.domain in
    let within : c.index-attachment.result.now.current < link_channels p d = input-within p d 0 c.index-attachment.result.now.current (omega (arith, few, current)) in
    let count = c.len-count.ensures ∙ ap (λ k. length (flits_at c.self.inside.buffers d k)) c.place.ensures.value
    ∙ ap (λ (r : Parts). length (flits_at r.buffers d (place p d 0 c.index-attachment.result.now.current))) c.self.view_is
    ∙ ap length (shown.queue 0 c.index-attachment.result.now.current (omega arith) within)
    ∙ ap (λ k. length (s.queue 0 k)) (current ∙ shown.current) in
    c.is_ready_packet.ensures
    ∙ ap (λ k. is_ready_packet k c.len-count.result c.buffer.result) (ap (λ (x : Attachment). x.packet) at ∙ shown.packet)
    ∙ ap (λ k. is_ready_packet s.packet k c.buffer.result) count
    ∙ ap (is_ready_packet s.packet (length (s.queue 0 s.current))) c.buffer.ensures
