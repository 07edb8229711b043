use Rattle.std.proofs.Common.{◌≡◌, ◌∙◌, ◌<◌, false, sym, ap, arith, length}
use Rattle.std.specs.Prelude.{is_some, pos}
use Rattle.std.proofs.lemmas.List.{get_or_read}
use Rattle.router_core.specs.declared.attachments.Told.{Told}
use Rattle.router_core.specs.Attachments.{told_at, outside, nothing_told}
use Rattle.router_core.specs.Crossing.{laid, laid_at}
use Rattle.router_core.specs.Parts.{Parts}
use Rattle.router_core.proofs.Idle.{resting, rest-steps, rest-sends}
use Rattle.router_core.proofs.router.Router.advance_or_rest.Goals as goal

pub returns-else-not-is_idle_for-clause-own : goal.returns-else-not-is_idle_for-clause-own
returns-else-not-is_idle_for-clause-own c = λ s t shown stands.
    let p = c.args.plan.now in
    let d = c.args.d in
    let r = c.args.self.now in
    let i = outside (told_at r.told d) in
    let there : d < length c.self.inside.told.items = let a = ap (λ (q : Parts). length q.told) c.self.view_is in let b = c.requires.made.told in omega (arith, a, b, c.requires.domain) in
    let told : c.index.result.now ≡ told_at r.told d = get_or_read c.self.inside.told.items _ _ there c.index.ensures nothing_told ∙ ap (λ (q : Parts). told_at q.told d) c.self.view_is in
    let none : is_some (told_at r.told d).offer ≡ false = ap (λ (x : Told). is_some x.offer) (sym told) ∙ sym c.is_some.ensures ∙ c.if-is_some.false in
    rest-steps r p d r.tile (pos t) s i (c.is_idle_for.ensures.0 c.if-not-is_idle_for.false) shown (resting p d (told_at r.told d) none)

pub returns-else-not-is_idle_for-clause-sent : goal.returns-else-not-is_idle_for-clause-sent
returns-else-not-is_idle_for-clause-sent c = λ s t o shown stands link inside.
    let p = c.args.plan.now in
    let d = c.args.d in
    let r = c.args.self.now in
    let i = outside (told_at r.told d) in
    ap (λ x. laid x (laid_at c.args.links.now o)) (sym (rest-sends r p d r.tile (pos t) s i (c.is_idle_for.ensures.0 c.if-not-is_idle_for.false) shown o))
