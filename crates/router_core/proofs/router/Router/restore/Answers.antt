use Rattle.std.proofs.Common.{◌∙◌, ◌+◌, ℕ, sym, ap, subst}
use Rattle.noc_model.specs.Inputs.{place}
use Rattle.credit_links.specs.Counts.{Counts, count_at, with_count}
use Rattle.router_core.specs.Parts.{Parts}
use Rattle.router_core.specs.Shown.{Shows, with_credit}
use Rattle.router_core.specs.Sizes.{IsMade}
use Rattle.router_core.proofs.Arrived.{repaid-made, repaid-own, repaid-others}
use Rattle.router_core.proofs.router.Router.restore.Goals as goal

pub returns-clause-value : goal.returns-clause-value
returns-clause-value c =
    let f : Counts → ℕ → Counts = λ x k. with_count x c.args.d k (count_at x c.args.d k + 1) in
    let repaid = c.restore.ensures ∙ ap (f c.self.inside.credits) c.place.ensures.value
    ∙ ap (λ (r : Parts). f r.credits (place c.args.plan.now c.args.d c.args.port c.args.w)) c.self.view_is in
    λ i. let r : Parts = c.self.view_is i in let t : Parts = record r { credits = repaid i } in t

pub returns-clause-own : goal.returns-clause-own
returns-clause-own c = λ s shown.
    let P : Parts → Type 0 = λ r. Shows r c.args.plan.now c.args.d (with_credit s c.args.port c.args.w) in
    subst P (sym (returns-clause-value c)) (repaid-own c.args.self.now c.args.plan.now c.args.d c.args.port c.args.w c.requires.made c.requires.domain s shown c.requires.port c.requires.channel)

pub returns-clause-others : goal.returns-clause-others
returns-clause-others c = λ e s apart shown.
    let P : Parts → Type 0 = λ r. Shows r c.args.plan.now e s in
    subst P (sym (returns-clause-value c)) (repaid-others c.args.self.now c.args.plan.now c.args.d c.args.port e c.args.w s apart shown)

pub returns-clause-made : goal.returns-clause-made
returns-clause-made c =
    let P : Parts → Type 0 = λ r. IsMade r c.args.plan.now in
    subst P (sym (returns-clause-value c)) (repaid-made c.args.self.now c.args.plan.now c.args.d c.args.port c.args.w c.requires.made c.requires.domain)
