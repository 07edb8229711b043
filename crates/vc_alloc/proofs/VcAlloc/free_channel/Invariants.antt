use Rattle.std.proofs.Common.{◌≡◌, ◌+◌, ◌*◌, None}
use Rattle.std.specs.Prelude.{not}
use Rattle.noc_model.specs.Pick.{least}
use Rattle.vc_alloc.specs.Allocator.{channels_at, held_at}
use Rattle.vc_alloc.proofs.VcAlloc.free_channel.Given as goal

abbrev pub invariant-loop-j : goal.invariant-loop-j
invariant-loop-j l = least l.j (λ j. not (held_at l.self l.d l.out (l.class * channels_at l.self l.d + j))) ≡ None
