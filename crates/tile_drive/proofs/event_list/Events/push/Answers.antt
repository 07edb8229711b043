use Rattle.std.proofs.Common.{subst, sym}
use Rattle.tile_drive.specs.Order.{AreInOrder, MayFollow}
use Rattle.tile_drive.proofs.InOrder.{AreInOrder-push}
use Rattle.tile_drive.proofs.event_list.Events.push.Goals as goal

pub invariant_of-self : goal.invariant_of-self
invariant_of-self c = subst AreInOrder (sym c.in_err-push.ensures.items) c.self.invariant

pub invariant_of-self-2 : goal.invariant_of-self-2
invariant_of-self-2 c = subst AreInOrder (sym c.in_ok-push.ensures.items)
    (AreInOrder-push _ _ c.self.invariant (subst (λ es. MayFollow es c.args.item) (sym c.self.view_is) c.requires))
