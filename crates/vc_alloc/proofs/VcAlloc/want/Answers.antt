use Rattle.std.proofs.Common.{Some, sym, ◌∙◌, ap}
use Rattle.vc_alloc.specs.declared.Winner.{Winner}
use Rattle.vc_alloc.proofs.Winners.{with-of, wanted-of}
use Rattle.vc_alloc.proofs.VcAlloc.want.Goals as goal

pub returns-in-Some-clause-same : goal.returns-in-Some-clause-same
returns-in-Some-clause-same c =
    let x = c.args.self.now in
    let d = c.args.d in
    rw c.put_best.ensures
    (with-of x d c.args.out (Some c.better_of-better.result) c.requires.same
    (λ b e. wanted-of x d c.at.result.now c.args.place c.in-Some.to c.best.result (λ b at. c.requires.same c.args.out b (sym c.best.ensures ∙ at)) c.requires.place c.in-Some.ensures.below b
    (ap (λ (w : Winner). Some w) (sym c.better_of-better.ensures) ∙ e)))
