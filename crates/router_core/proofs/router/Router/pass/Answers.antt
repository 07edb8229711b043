use Rattle.std.proofs.Common.{◌≡◌, ◌∙◌, ℕ, Bool, true, List, drop, sym, ap, subst, Option}
use Rattle.noc_model.specs.declared.Flit.{Flit}
use Rattle.noc_model.specs.declared.Grant.{Grant}
use Rattle.noc_model.specs.Plan.{Plan}
use Rattle.noc_model.specs.Step.{is_tail, with_channel}
use Rattle.noc_model.specs.Inputs.{place}
use Rattle.flit_pool.specs.Lists.{Lists}
use Rattle.vc_alloc.specs.Allocator.{held_at}
use Rattle.router_core.specs.contracts.router.Router.{the_view}
use Rattle.router_core.specs.Buffers.{flits_at, with_flits}
use Rattle.router_core.specs.Heads.{front_of}
use Rattle.router_core.specs.Parts.{Parts}
use Rattle.router_core.specs.Sends.{finished, freed, ends, passed_parts, passed}
use Rattle.router_core.specs.Sizes.{IsMade}
use Rattle.router_core.specs.Shown.{Shows}
use Rattle.router_core.proofs.Passed.{passed-made, passed-own, passed-others}
use Rattle.router_core.proofs.router.Router.pass.Goals as goal

-- whether the packet has gone
gone-is : (r : Parts) (p : Plan) (d port : ℕ) (g : Grant) (k : ℕ) (flit : Option Flit) (gone : Bool) → k ≡ place p d port g.channel → flit ≡ front_of r.buffers d k → gone ≡ is_tail flit
    → gone ≡ ends r p d port g
gone-is r p d port g k flit gone at front is = is ∙ ap is_tail front ∙ ap (λ j. is_tail (front_of r.buffers d j)) at

pub free-requires-clause-held : goal.free-requires-clause-held
free-requires-clause-held c = λ gone.
    let P : Parts → Type 0 = λ r. held_at r.allocator c.args.d c.args.grant.out c.args.grant.to ≡ true in
    let e = sym (gone-is (the_view c.self.inside) c.args.plan.now c.args.d c.args.port c.args.grant _ _ _ c.place-k.ensures.value c.pop-flit.ensures.value c.is_tail-gone.ensures) ∙ gone in
    subst P (sym c.self.view_is) (c.requires.held (ap (λ (r : Parts). ends r c.args.plan.now c.args.d c.args.port c.args.grant) (sym c.self.view_is) ∙ e))

pub returns-clause-value : goal.returns-clause-value
returns-clause-value c =
    let p = c.args.plan.now in
    let d = c.args.d in
    let r = the_view c.self.inside in
    let g = c.args.grant in
    let k = place p d c.args.port g.channel in
    let gone = gone-is r p d c.args.port g _ _ _ c.place-k.ensures.value c.pop-flit.ensures.value c.is_tail-gone.ensures in
    let f : ℕ → List Lists = λ j. with_flits r.buffers d j (drop 1 (flits_at r.buffers d j)) in
    let buffers = c.pop-flit.ensures.rest ∙ ap f c.place-k.ensures.value in
    let stages = c.finish.ensures ∙ ap (λ j. finished r.stages d j c.is_tail-gone.result) c.place-k.ensures.value ∙ ap (finished r.stages d k) gone in
    let allocator = c.free.ensures ∙ ap (freed r.allocator d g.out g.to) gone in
    (λ i. let t : Parts = record r { buffers = buffers i; stages = stages i; pulses = c.pulse.ensures i; allocator = allocator i; credits = c.spend.ensures i } in t)
    ∙ ap (λ t. passed_parts t p d c.args.port g) c.self.view_is

pub returns-clause-flit : goal.returns-clause-flit
returns-clause-flit c =
    c.with_channel.ensures ∙ ap (with_channel c.args.grant.to) (c.pop-flit.ensures.value ∙ ap (front_of c.self.inside.buffers c.args.d) c.place-k.ensures.value
    ∙ ap (λ (r : Parts). front_of r.buffers c.args.d (place c.args.plan.now c.args.d c.args.port c.args.grant.channel)) c.self.view_is)

pub returns-clause-own : goal.returns-clause-own
returns-clause-own c = λ s shown.
    let P : Parts → Type 0 = λ r. Shows r c.args.plan.now c.args.d (passed s c.args.port c.args.grant) in
    subst P (sym (returns-clause-value c))
    (passed-own c.args.self.now c.args.plan.now c.args.d c.args.port c.args.grant c.requires.made c.requires.domain c.requires.port c.requires.channel c.requires.output c.requires.to s shown)

pub returns-clause-others : goal.returns-clause-others
returns-clause-others c = λ e s apart shown.
    let P : Parts → Type 0 = λ r. Shows r c.args.plan.now e s in
    subst P (sym (returns-clause-value c)) (passed-others c.args.self.now c.args.plan.now c.args.d c.args.port e c.args.grant s apart shown)

pub returns-clause-made : goal.returns-clause-made
returns-clause-made c =
    let P : Parts → Type 0 = λ r. IsMade r c.args.plan.now in
    subst P (sym (returns-clause-value c))
    (passed-made c.args.self.now c.args.plan.now c.args.d c.args.port c.args.grant c.requires.made c.requires.domain c.requires.port c.requires.channel c.requires.output c.requires.to)
