use Rattle.std.proofs.Common.{◌≡◌}
use Rattle.gen_kit.specs.Families.{any_upto}
use Rattle.noc_model.specs.Place.{neighbour}
use Rattle.leaf_tie.specs.Whole.{link_uses}
use Rattle.gen_router.proofs.order.uses_slot.Given as goal

abbrev pub invariant-loop-out : goal.invariant-loop-out
invariant-loop-out l = l.used ≡ any_upto l.out (λ o. link_uses l.plan l.tile l.slot o (neighbour l.plan l.tile o))
