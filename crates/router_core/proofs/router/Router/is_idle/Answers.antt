use Rattle.std.proofs.Common.{sym, subst, arith, ⊎_elim}
use Rattle.std.proofs.lemmas.Bool.Decides.{eqb_tells}
use Rattle.router_core.specs.Idle.{IsIdleFor}
use Rattle.router_core.proofs.router.Router.is_idle.Goals as goal

pub loop-d-preserved : goal.loop-d-preserved
loop-d-preserved c = λ k less. ⊎_elim
    (λ same. subst (IsIdleFor c.args.plan.now c.args.self.now) (sym same.1) (c.is_idle_for.ensures.0 c.if-not-is_idle_for.false))
    (λ other. let apart = other.1 in c.loop-d.invariant k (grind (arith, less, apart)))
    (eqb_tells k c.loop-d.d)
