use Rattle.std.proofs.Common.{ap, subst, Option}
use Rattle.noc_model.specs.declared.Offer.{Offer}
use Rattle.tile_iface.specs.Iface.{taken}
use Rattle.router_core.specs.declared.attachments.Attachment.{Attachment}
use Rattle.router_core.specs.declared.attachments.Told.{Told}
use Rattle.router_core.specs.Attachments.{told_at}
use Rattle.router_core.specs.Attach.{IsStill}
use Rattle.router_core.specs.Parts.{Parts}
use Rattle.router_core.proofs.Attached.{read-is, heard-is, attached-still}
use Rattle.router_core.proofs.router.Router.is_at_rest.Goals as goal

pub returns : goal.returns
returns c = λ yes p.
    let r = c.args.self.now in
    let d = c.args.d in
    let eject = c.args.eject in
    let a = c.index-attachment.result.now in
    let t = c.index-told.result.now in
    let read = read-is r c.self.inside.attachments.items d _ (ap (λ (q : Parts). q.attachments) c.self.view_is) c.requires.domain c.index-attachment.ensures in
    let heard = heard-is r c.self.inside.told.items d _ (ap (λ (q : Parts). q.told) c.self.view_is) c.requires.told c.index-told.ensures in
    let A : Attachment → Type 0 = λ x. IsStill x (taken c.args.ready (told_at r.told d).offer) eject (told_at r.told d).hears in
    let T : Told → Type 0 = λ x. IsStill a (taken c.args.ready x.offer) eject x.hears in
    let W : Option Offer → Type 0 = λ w. IsStill a w eject t.hears in
    attached-still r p d _ eject _ (subst A read (subst T heard (subst W c.taken.ensures (c.stays.ensures yes))))
