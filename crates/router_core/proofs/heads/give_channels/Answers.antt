use Rattle.std.proofs.Common.{◌+◌, ◌<◌, List, arith, sym, subst}
use Rattle.noc_model.specs.declared.Stage.{Stage}
use Rattle.noc_model.specs.Plan.{ports}
use Rattle.vc_alloc.specs.Allocator.{Allocator, best_at, committed, AreOf}
use Rattle.router_core.specs.Heads.{GivesBelow}
use Rattle.router_core.proofs.Given.{gives-none, gives-more}
use Rattle.router_core.proofs.heads.give_channels.Goals as goal

pub loop-out-init : goal.loop-out-init
loop-out-init c = gives-none c.args.plan.now c.args.d c.args.allocator.now c.args.stages.now c.requires.made c.requires.stages c.requires.same

pub loop-out-preserved : goal.loop-out-preserved
loop-out-preserved c =
    let p = c.args.plan.now in
    let d = c.args.d in
    let o = c.loop-out.out in
    let inside : o < ports p = let a = c.ports-out-end.ensures.value in omega (arith, a, c.loop-out-test.true) in
    let S : Allocator → Type 0 = λ a. AreOf a d in
    let A : Allocator → Type 0 = λ a. GivesBelow (o + 1) p d c.args.allocator.now a c.args.stages.now c.give_channel.new.stages in
    let U : List (List Stage) → Type 0 =
    λ u. GivesBelow (o + 1) p d c.args.allocator.now (committed c.loop-out.allocator d o (best_at c.loop-out.allocator o)) c.args.stages.now u in
    subst A (sym c.give_channel.ensures.allocator)
    (subst U (sym c.give_channel.ensures.stages)
    (gives-more p d o c.args.allocator.now c.loop-out.allocator c.args.stages.now c.loop-out.stages (best_at c.loop-out.allocator o) c.requires.domain inside c.loop-out.invariant (λ i. best_at c.loop-out.allocator o)
    (subst S c.give_channel.ensures.allocator c.give_channel.ensures.same)))
