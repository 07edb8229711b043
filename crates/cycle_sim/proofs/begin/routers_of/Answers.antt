use Rattle.std.proofs.Common.{◌+◌, ◌∷◌, [], List, length, length-append, sym, ap, ◌∙◌, subst}
use Rattle.std.specs.Prelude.{slice_get}
use Rattle.router_core.specs.Parts.{Parts}
use Rattle.cycle_sim.specs.Net.{IsFresh}
use Rattle.cycle_sim.proofs.Fresh.{each-push, fresh-router}
use Rattle.cycle_sim.proofs.begin.routers_of.Goals as goal

pub loop-n-preserved : goal.loop-n-preserved
loop-n-preserved c =
    let p = c.args.plan.now in
    let r : Parts = c.in_ok-new.field-0 in
    let xs : List Parts = c.loop-n.routers.items in
    let pushed = c.in_ok-push.ensures.items in
    let inv = c.loop-n.invariant in
    let fresh = fresh-router p c.loop-n.n r c.in_ok-new.ensures.value c.in_ok-new.ensures.made c.in_ok-new.ensures.wheel c.in_ok-new.ensures.shows in
    record {
      count = ap length pushed ∙ length-append xs (r ∷ []) ∙ ap (λ k. k + 1) inv.count;
      fresh = λ m q is. each-push (IsFresh p) xs r inv.fresh (subst (λ k. IsFresh p k r) (sym inv.count) fresh) m q (ap (λ ys. slice_get ys m) (sym pushed) ∙ is);
    }
