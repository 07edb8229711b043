use Rattle.std.proofs.Common.{◌∙◌, ap, sym, arith}
use Rattle.std.specs.Prelude.{Some}
use Rattle.flit_pool.specs.declared.ring.Link.{Link}
use Rattle.flit_pool.proofs.Members.{is-call, present-below, after-none, after-some}
use Rattle.flit_pool.proofs.ring.Ring.after.Goals as goal

pub link_at-next-requires : goal.link_at-next-requires
link_at-next-requires c =
    let a = present-below (is-call _ _ _ _ c.self.invariant c.self.view_is) c.args.i c.requires in
    omega (arith, a, c.self.invariant.whole)

pub returns-then-next-self : goal.returns-then-next-self
returns-then-next-self c =
    λ k at. after-none (is-call _ _ _ _ c.self.invariant c.self.view_is) c.args.i k at (sym (ap (λ (x : Link). x.next) c.link_at-next.ensures) ∙ c.if-next-self.true)

pub returns-else-next-self : goal.returns-else-next-self
returns-else-next-self c = λ k at. ap (λ (x : Link). Some x.next) c.link_at-next.ensures
    ∙ after-some (is-call _ _ _ _ c.self.invariant c.self.view_is) c.args.i k at (λ e. c.if-next-self.false (ap (λ (x : Link). x.next) c.link_at-next.ensures ∙ e))
