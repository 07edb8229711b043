use Rattle.std.proofs.Common.{◌≡◌, ◌+◌, ◌∷◌, [], List, length, length-append, sym, ap, ◌∙◌}
use Rattle.std.specs.Prelude.{slice_get}
use Rattle.noc_model.specs.Plan.{ports}
use Rattle.router_core.specs.declared.router.RouterOut.{RouterOut}
use Rattle.cycle_sim.proofs.Fresh.{each-push}
use Rattle.cycle_sim.proofs.begin.outs_of.Goals as goal

pub loop-preserved : goal.loop-preserved
loop-preserved c =
    let p = c.args.plan.now in
    let out : RouterOut = c.in_ok-new.field-0 in
    let xs : List RouterOut = c.loop.outs.items in
    let pushed = c.in_ok-push.ensures.items in
    let inv = c.loop.invariant in
    record {
      count = ap length pushed ∙ length-append xs (out ∷ []) ∙ ap (λ k. k + 1) inv.count;
      links = λ m q is. each-push (λ k (x : RouterOut). length x.links.items ≡ ports p) xs out inv.links c.in_ok-new.ensures m q (ap (λ ys. slice_get ys m) (sym pushed) ∙ is);
    }
