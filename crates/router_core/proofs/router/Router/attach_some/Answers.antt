use Rattle.std.proofs.Common.{◌≡◌, ◌∙◌, ◌<◌, ℕ, Bool, Option, length, set, sym, ap, subst, arith}
use Rattle.std.specs.Prelude.{IfSome}
use Rattle.noc_model.specs.declared.Flit.{Flit}
use Rattle.noc_model.specs.declared.Offer.{Offer}
use Rattle.noc_model.specs.Plan.{Plan, channels}
use Rattle.noc_model.specs.Inputs.{place}
use Rattle.noc_model.specs.Step.{entry}
use Rattle.tile_iface.specs.Iface.{taken}
use Rattle.router_core.specs.declared.attachments.Attachment.{Attachment}
use Rattle.router_core.specs.declared.attachments.Told.{Told}
use Rattle.router_core.specs.Attachments.{attachment_at, told_at}
use Rattle.router_core.specs.Attach.{attachment_after, entered, attached}
use Rattle.router_core.specs.Buffers.{flits_at}
use Rattle.router_core.specs.Parts.{Parts}
use Rattle.router_core.specs.Sizes.{IsMade}
use Rattle.router_core.specs.Shown.{Shows}
use Rattle.router_core.proofs.Attached.{read-is, heard-is, attached-made, attached-own, attached-others, enter-room}
use Rattle.router_core.proofs.router.Router.attach_some.Goals as goal

-- the word that was taken, and the flit that enters
word-is : (r : Parts) (d : ℕ) (ready : Bool) (t : Told) (w : Option Offer) → t ≡ told_at r.told d → w ≡ taken ready t.offer → w ≡ taken ready (told_at r.told d).offer
word-is r d ready t w heard is = is ∙ ap (λ (x : Told). taken ready x.offer) heard

flit-is : (r : Parts) (p : Plan) (d : ℕ) (a : Attachment) (w v : Option Offer) (f : Option Flit) → a ≡ attachment_at r.attachments d → w ≡ v → f ≡ entry p d a.packet w
    → f ≡ entry p d (attachment_at r.attachments d).packet v
flit-is r p d a w v f read same is = is ∙ ap (λ (x : Attachment). entry p d x.packet w) read ∙ ap (entry p d (attachment_at r.attachments d).packet) same

there-is : (r : Parts) (p : Plan) (d : ℕ) → IsMade r p → d < length p.domains → (d < length r.attachments) × (d < length r.told)
there-is r p d made there = (let a = made.attachments.domains in omega (arith, a, there), let a = made.told in omega (arith, a, there))

pub enter-requires-clause-room : goal.enter-requires-clause-room
enter-requires-clause-room c =
    let p = c.args.plan.now in
    let d = c.args.d in
    let now = c.args.self.now in
    let a = attachment_at now.attachments d in
    let there = there-is now p d c.requires.made c.requires.domain in
    let read = read-is now c.self.inside.attachments.items d _ (ap (λ (r : Parts). r.attachments) c.self.view_is) there.0 c.index-attachment.ensures in
    let heard = heard-is now c.self.inside.told.items d _ (ap (λ (r : Parts). r.told) c.self.view_is) there.1 c.index-told.ensures in
    let word = word-is now d c.args.ready _ _ heard c.taken-word.ensures in
    let flit = flit-is now p d _ _ _ _ read word c.entry-flit.ensures in
    let same = ap (λ (x : Attachment). length (flits_at c.self.inside.buffers d (place p d 0 x.current))) read
    ∙ ap (λ (r : Parts). length (flits_at r.buffers d (place p d 0 a.current))) c.self.view_is in
    let P : ℕ → Type 0 = λ n. IfSome (entry p d a.packet (taken c.args.ready (told_at now.told d).offer)) (λ f. n < p.buffer) in
    let Q : Option Flit → Type 0 = λ o. IfSome o (λ f. length (flits_at c.self.inside.buffers d (place p d 0 c.index-attachment.result.now.current)) < p.buffer) in
    subst Q (sym flit)
    (subst P (sym same) (enter-room p d (length (flits_at now.buffers d (place p d 0 a.current))) p.buffer a.packet c.args.ready (told_at now.told d).offer c.requires.room))

-- the attachment after it
after-is : (r : Parts) (p : Plan) (d : ℕ) (a b : Attachment) (t : Told) (w v : Option Offer) (eject : Option Flit) → a ≡ attachment_at r.attachments d → t ≡ told_at r.told d → w ≡ v
    → b ≡ attachment_after p d a w eject t.hears → b ≡ attachment_after p d (attachment_at r.attachments d) v eject (told_at r.told d).hears
after-is r p d a b t w v eject read heard same is =
    is ∙ ap (λ (x : Attachment). attachment_after p d x w eject t.hears) read ∙ ap (λ o. attachment_after p d (attachment_at r.attachments d) o eject t.hears) same
    ∙ ap (λ (x : Told). attachment_after p d (attachment_at r.attachments d) v eject x.hears) heard

pub returns-clause-value : goal.returns-clause-value
returns-clause-value c =
    let p = c.args.plan.now in
    let d = c.args.d in
    let now = c.args.self.now in
    let a = attachment_at now.attachments d in
    let there = there-is now p d c.requires.made c.requires.domain in
    let read = read-is now c.self.inside.attachments.items d _ (ap (λ (r : Parts). r.attachments) c.self.view_is) there.0 c.index-attachment.ensures in
    let heard = heard-is now c.self.inside.told.items d _ (ap (λ (r : Parts). r.told) c.self.view_is) there.1 c.index-told.ensures in
    let word = word-is now d c.args.ready _ _ heard c.taken-word.ensures in
    let flit = flit-is now p d _ _ _ _ read word c.entry-flit.ensures in
    let after = after-is now p d _ _ _ _ _ c.args.eject read heard word c.attachment_after.ensures.value in
    let buffers = ap (λ (r : Parts). entered r.buffers d (place p d 0 c.index-attachment.result.now.current) c.entry-flit.result) c.self.view_is
    ∙ ap (λ (x : Attachment). entered now.buffers d (place p d 0 x.current) c.entry-flit.result) read ∙ ap (entered now.buffers d (place p d 0 a.current)) flit in
    let attachments = ap (λ (r : Parts). set r.attachments d c.attachment_after.result) c.self.view_is ∙ ap (set now.attachments d) after in
    c.enter.ensures ∙ (λ i. let r : Parts = c.self.view_is i in let t : Parts = record r { buffers = buffers i; attachments = attachments i } in t)

pub returns-clause-own : goal.returns-clause-own
returns-clause-own c = λ s shown.
    let p = c.args.plan.now in
    let d = c.args.d in
    let now = c.args.self.now in
    let w = taken c.args.ready (told_at now.told d).offer in
    let P : Parts → Type 0 = λ r. Shows r p d (attached p d s w c.args.eject (told_at now.told d).hears) in
    subst P (sym (returns-clause-value c)) (attached-own now p d w c.args.eject (told_at now.told d).hears c.requires.made c.requires.domain s shown)

pub returns-clause-others : goal.returns-clause-others
returns-clause-others c = λ e s apart shown.
    let p = c.args.plan.now in
    let d = c.args.d in
    let now = c.args.self.now in
    let P : Parts → Type 0 = λ r. Shows r p e s in
    subst P (sym (returns-clause-value c)) (attached-others now p d (taken c.args.ready (told_at now.told d).offer) c.args.eject (told_at now.told d).hears c.requires.made c.requires.domain e s apart shown)

pub returns-clause-made : goal.returns-clause-made
returns-clause-made c =
    let p = c.args.plan.now in
    let d = c.args.d in
    let now = c.args.self.now in
    let w = taken c.args.ready (told_at now.told d).offer in
    let there = there-is now p d c.requires.made c.requires.domain in
    let read = read-is now c.self.inside.attachments.items d _ (ap (λ (r : Parts). r.attachments) c.self.view_is) there.0 c.index-attachment.ensures in
    let heard = heard-is now c.self.inside.told.items d _ (ap (λ (r : Parts). r.told) c.self.view_is) there.1 c.index-told.ensures in
    let word = word-is now d c.args.ready _ _ heard c.taken-word.ensures in
    let after = after-is now p d _ _ _ _ _ c.args.eject read heard word c.attachment_after.ensures.value in
    let P : Parts → Type 0 = λ r. IsMade r p in
    let few = let e = ap (λ (x : Attachment). x.current) after in let f = c.attachment_after.ensures.current in let below : (attachment_after p d (attachment_at now.attachments d) w c.args.eject (told_at now.told d).hears).current < channels p d = omega (arith, e, f) in below in
    subst P (sym (returns-clause-value c)) (attached-made now p d w c.args.eject (told_at now.told d).hears c.requires.made c.requires.domain few)
