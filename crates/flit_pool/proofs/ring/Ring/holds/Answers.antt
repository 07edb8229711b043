use Rattle.std.proofs.Common.{◌∙◌, ap}
use Rattle.std.specs.Prelude.{nat_le}
use Rattle.flit_pool.specs.declared.ring.Link.{Link}
use Rattle.flit_pool.proofs.Members.{is-call, holds-value}
use Rattle.flit_pool.proofs.ring.Ring.holds.Goals as goal

pub returns : goal.returns
returns c =
    ap (λ (x : Link). nat_le x.next c.self.inside.size) c.link_at.ensures
    ∙ holds-value (is-call _ _ _ _ c.self.invariant c.self.view_is) c.args.i c.requires
