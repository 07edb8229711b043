use Rattle.std.proofs.Common.{◌≡◌, ◌≢◌, ◌∙◌, ◌<◌, true, false, length, sym, ap, subst, arith}
use Rattle.std.specs.Prelude.{◌==◌, ◌&&◌, ◌||◌, nat_lt, is_none, pos}
use Rattle.std.proofs.lemmas.List.{get_or_read}
use Rattle.std.proofs.lemmas.Bool.Decides.{nat_tests}
use Rattle.noc_model.specs.Place.{owner}
use Rattle.noc_model.specs.Inputs.{place}
use Rattle.noc_model.proofs.Switched.{output-below}
use Rattle.credit_links.specs.Counts.{count_at}
use Rattle.wave_sched.specs.Wheels.{Stands, wheel_ports}
use Rattle.router_core.specs.declared.attachments.Attachment.{Attachment}
use Rattle.router_core.specs.declared.attachments.Told.{Told}
use Rattle.router_core.specs.Attachments.{start_attachment, attachment_at, nothing_told, told_at, outside}
use Rattle.router_core.specs.Parts.{Parts}
use Rattle.router_core.proofs.Takes.{takes-local, takes-link, link-there, link-on-channel, none-is}
use Rattle.router_core.proofs.router.Router.takes.Goals as goal

pub leaving-requires : goal.leaving-requires
leaving-requires c =
    let a = output-below c.args.plan.now c.args.self.now.tile c.args.out c.requires.output in
    let b = ap (λ (r : Parts). wheel_ports r.wheel) c.self.view_is in
    let e = c.requires.made.wheel in
    omega (arith, a, b, e)

pub place-requires-clause-port : goal.place-requires-clause-port
place-requires-clause-port c = output-below c.args.plan.now c.args.self.now.tile c.args.out c.requires.output

pub returns-then-is_none : goal.returns-then-is_none
returns-then-is_none c = λ s t shown stands.
    let p = c.args.plan.now in
    let d = c.args.d in
    let now = c.args.self.now in
    let i = outside (told_at now.told d) in
    let there : d < length c.self.inside.attachments.items =
    let a = ap (λ (r : Parts). length r.attachments) c.self.view_is in let b = c.requires.made.attachments.domains in omega (arith, a, b, c.requires.domain) in
    let at = get_or_read c.self.inside.attachments.items _ _ there c.index.ensures start_attachment ∙ ap (λ (r : Parts). attachment_at r.attachments d) c.self.view_is in
    let none : is_none s.ejected ≡ true =
    sym (ap is_none (ap (λ (x : Attachment). x.ejected) at ∙ shown.ejected)) ∙ none-is c.index.result.now.ejected c.is_none.result c.is_none.ensures ∙ c.if-is_none.true in
    c.if-is_none.true ∙ sym (takes-local p d now.tile (pos t) s i c.args.out c.args.to c.if-out-eq0.true ∙ ap (λ b. b || i.hears) none)

pub returns-else-is_none : goal.returns-else-is_none
returns-else-is_none c = λ s t shown stands.
    let p = c.args.plan.now in
    let d = c.args.d in
    let now = c.args.self.now in
    let i = outside (told_at now.told d) in
    let there : d < length c.self.inside.attachments.items =
    let a = ap (λ (r : Parts). length r.attachments) c.self.view_is in let b = c.requires.made.attachments.domains in omega (arith, a, b, c.requires.domain) in
    let told_there : d < length c.self.inside.told.items =
    let a = ap (λ (r : Parts). length r.told) c.self.view_is in let b = c.requires.made.told in omega (arith, a, b, c.requires.domain) in
    let at = get_or_read c.self.inside.attachments.items _ _ there c.index.ensures start_attachment ∙ ap (λ (r : Parts). attachment_at r.attachments d) c.self.view_is in
    let told = get_or_read c.self.inside.told.items _ _ told_there c.index-else-is_none.ensures nothing_told ∙ ap (λ (r : Parts). told_at r.told d) c.self.view_is in
    let some : is_none s.ejected ≡ false =
    sym (ap is_none (ap (λ (x : Attachment). x.ejected) at ∙ shown.ejected)) ∙ none-is c.index.result.now.ejected c.is_none.result c.is_none.ensures ∙ c.if-is_none.false in
    ap (λ (x : Told). x.hears) told ∙ sym (takes-local p d now.tile (pos t) s i c.args.out c.args.to c.if-out-eq0.true ∙ ap (λ b. b || i.hears) some)

pub returns-then-leaving-d : goal.returns-then-leaving-d
returns-then-leaving-d c = λ s t shown stands.
    let p = c.args.plan.now in
    let d = c.args.d in
    let o = c.args.out in
    let w = c.args.to in
    let now = c.args.self.now in
    let P : Parts → Type 0 = λ r. Stands r.wheel p now.tile t in
    let link = link-there p now.tile o c.requires.output c.if-out-eq0.false in
    let own : owner p now.tile o (pos t) ≡ d = sym (c.leaving.ensures.value p now.tile t link.0 (subst P (sym c.self.view_is) stands) link.1) ∙ c.if-leaving-d.true in
    let test : (owner p now.tile o (pos t) == d) ≡ true = grind (arith, nat_tests) in
    let below = output-below p now.tile o c.requires.output in
    let count = c.count.ensures.value ∙ ap (count_at c.self.inside.credits d) c.place.ensures.value
    ∙ ap (λ (r : Parts). count_at r.credits d (place p d o w)) c.self.view_is ∙ shown.credits o w c.if-out-eq0.false below (link-on-channel p d o w c.if-out-eq0.false c.requires.channel) in
    ap (nat_lt 0) count
    ∙ sym (takes-link p d now.tile (pos t) s (outside (told_at now.told d)) o w c.if-out-eq0.false ∙ ap (λ b. b && nat_lt 0 (s.credits o w)) test)

pub returns-else-leaving-d : goal.returns-else-leaving-d
returns-else-leaving-d c = λ s t shown stands.
    let p = c.args.plan.now in
    let d = c.args.d in
    let o = c.args.out in
    let w = c.args.to in
    let now = c.args.self.now in
    let P : Parts → Type 0 = λ r. Stands r.wheel p now.tile t in
    let link = link-there p now.tile o c.requires.output c.if-out-eq0.false in
    let own : c.leaving.result ≡ owner p now.tile o (pos t) = c.leaving.ensures.value p now.tile t link.0 (subst P (sym c.self.view_is) stands) link.1 in
    let apart : owner p now.tile o (pos t) ≢ d = λ e. c.if-leaving-d.false (own ∙ e) in
    let test : (owner p now.tile o (pos t) == d) ≡ false = grind (arith, nat_tests) in
    ap (λ k. k == d) own ∙ test
    ∙ sym (takes-link p d now.tile (pos t) s (outside (told_at now.told d)) o w c.if-out-eq0.false ∙ ap (λ b. b && nat_lt 0 (s.credits o w)) test)
