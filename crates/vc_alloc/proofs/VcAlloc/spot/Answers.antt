use Rattle.std.proofs.Common.{◌<◌, ◌≤◌, ◌*◌, length, subst}
use Rattle.vc_alloc.specs.Allocator.{Allocator, link_channels_at}
use Rattle.vc_alloc.proofs.Winners.{places-few}
use Rattle.vc_alloc.proofs.VcAlloc.spot.Goals as goal

pub returns-clause-few : goal.returns-clause-few
returns-clause-few c =
    let P : Allocator → Type 0 = λ x. c.args.d < length x.channels → length x.best * link_channels_at x c.args.d ≤ 56 in
    subst P c.self.view_is (places-few _ c.args.d c.self.invariant) c.requires.domain
