use Rattle.std.proofs.Common.{ℕ, sym, subst}
use Rattle.noc_model.specs.Plan.{ports}
use Rattle.route_stage.specs.Routed.{stage_at}
use Rattle.vc_alloc.specs.Shown.{GoesBelow}
use Rattle.router_core.specs.contracts.router.Router.{the_view}
use Rattle.router_core.specs.Parts.{Parts}
use Rattle.router_core.specs.Sizes.{IsMade}
use Rattle.router_core.specs.Shown.{Shows}
use Rattle.router_core.specs.Heads.{placed}
use Rattle.router_core.proofs.Placed.{placed_parts, placed-made, placed-others, placed-own}
use Rattle.router_core.proofs.router.Router.place_waiting.Goals as goal

before : (c : goal.After-give_channels) → IsMade (the_view c.self.inside) c.args.plan.now
before c = let P : Parts → Type 0 = λ r. IsMade r c.args.plan.now in subst P (sym c.self.view_is) c.requires.made

outs : (c : goal.After-give_channels) (k : ℕ) → GoesBelow (ports c.args.plan.now) (stage_at (the_view c.self.inside).stages c.args.d k)
outs c k = let P : Parts → Type 0 = λ r. GoesBelow (ports c.args.plan.now) (stage_at r.stages c.args.d k) in subst P (sym c.self.view_is) (c.requires.outs k)

pub returns-clause-rest : goal.returns-clause-rest
returns-clause-rest c = λ i. let r : Parts = c.self.view_is i in placed_parts r c.give_channels.new.allocator c.give_channels.new.stages

pub returns-clause-own : goal.returns-clause-own
returns-clause-own c = λ s shown.
    let p = c.args.plan.now in
    let d = c.args.d in
    let r = the_view c.self.inside in
    let S : Parts → Type 0 = λ r. Shows r p d s in
    let T : Parts → Type 0 = λ q. Shows (placed_parts r c.give_channels.new.allocator c.give_channels.new.stages) p d (placed p d q.tile s) in
    subst T c.self.view_is
    (placed-own p d r c.want_heads.new.allocator c.give_channels.new.allocator c.route_heads.new.stages c.give_channels.new.stages (before c) c.requires.domain c.want_heads.ensures c.route_heads.ensures.own
    c.route_heads.ensures.others (outs c) c.give_channels.ensures s (subst S (sym c.self.view_is) shown))

pub returns-clause-others : goal.returns-clause-others
returns-clause-others c = λ e s apart shown.
    let p = c.args.plan.now in
    let d = c.args.d in
    let S : Parts → Type 0 = λ r. Shows r p e s in
    placed-others p d (the_view c.self.inside) c.want_heads.new.allocator c.give_channels.new.allocator c.route_heads.new.stages c.give_channels.new.stages (before c) c.requires.domain c.want_heads.ensures
    c.route_heads.ensures.own c.route_heads.ensures.others (outs c) c.give_channels.ensures e s apart (subst S (sym c.self.view_is) shown)

pub returns-clause-made : goal.returns-clause-made
returns-clause-made c =
    placed-made c.args.plan.now c.args.d (the_view c.self.inside) c.want_heads.new.allocator c.give_channels.new.allocator c.route_heads.new.stages c.give_channels.new.stages (before c) c.requires.domain
    c.want_heads.ensures c.route_heads.ensures.own c.route_heads.ensures.others (outs c) c.give_channels.ensures
