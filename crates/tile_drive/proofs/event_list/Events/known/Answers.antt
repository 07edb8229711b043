use Rattle.std.proofs.Common.{subst}
use Rattle.tile_drive.specs.Order.{AreInOrder}
use Rattle.tile_drive.proofs.event_list.Events.known.Goals as goal

pub returns : goal.returns
returns c = subst AreInOrder c.self.view_is c.self.invariant
