use Rattle.std.proofs.Common.{◌∙◌, ◌++◌, ◌∷◌, [], List, ℕ, sym, ap, subst}
use Rattle.noc_model.specs.Inputs.{place}
use Rattle.flit_pool.specs.Lists.{Lists}
use Rattle.router_core.specs.Buffers.{flits_at, with_flits}
use Rattle.router_core.specs.Parts.{Parts}
use Rattle.router_core.specs.Shown.{Shows, with_flit}
use Rattle.router_core.specs.Sizes.{IsMade}
use Rattle.router_core.proofs.Arrived.{fed-made, fed-own, fed-others}
use Rattle.router_core.proofs.router.Router.arrive.Goals as goal

pub returns-clause-value : goal.returns-clause-value
returns-clause-value c =
    let f : List Lists → ℕ → List Lists = λ bs k. with_flits bs c.args.d k (flits_at bs c.args.d k ++ c.args.x.flit ∷ []) in
    let pushed = c.push.ensures ∙ ap (f c.self.inside.buffers) c.place.ensures.value
    ∙ ap (λ (r : Parts). f r.buffers (place c.args.plan.now c.args.d c.args.port c.args.x.channel)) c.self.view_is in
    λ i. let r : Parts = c.self.view_is i in let t : Parts = record r { buffers = pushed i } in t

pub returns-clause-own : goal.returns-clause-own
returns-clause-own c = λ s shown.
    let P : Parts → Type 0 = λ r. Shows r c.args.plan.now c.args.d (with_flit s c.args.port c.args.x) in
    subst P (sym (returns-clause-value c)) (fed-own c.args.self.now c.args.plan.now c.args.d c.args.port c.args.x c.requires.made c.requires.domain s shown c.requires.port c.requires.channel)

pub returns-clause-others : goal.returns-clause-others
returns-clause-others c = λ e s apart shown.
    let P : Parts → Type 0 = λ r. Shows r c.args.plan.now e s in
    subst P (sym (returns-clause-value c)) (fed-others c.args.self.now c.args.plan.now c.args.d c.args.port e c.args.x s apart shown)

pub returns-clause-made : goal.returns-clause-made
returns-clause-made c =
    let P : Parts → Type 0 = λ r. IsMade r c.args.plan.now in
    subst P (sym (returns-clause-value c)) (fed-made c.args.self.now c.args.plan.now c.args.d c.args.port c.args.x c.requires.made c.requires.domain)
